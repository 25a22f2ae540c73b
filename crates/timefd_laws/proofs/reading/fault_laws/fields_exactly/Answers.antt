use Rattle.timefd_laws.proofs.ReadingLemmas.FaultLemmas as lemmas
use Rattle.timefd_laws.proofs.reading.fault_laws.fields_exactly.Goals as goal

pub returns : goal.returns
returns c = lemmas.fields_exactly
