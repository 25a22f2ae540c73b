use Rattle.timefd_lang_fault.proofs.FaultEqualityLemmas.{fault_equality_law}
use Rattle.timefd_lang_fault.proofs.laws.fault_equality.Goals as goal

pub returns : goal.returns
returns c = fault_equality_law
