use Rattle.timefd_laws.proofs.ReadingLemmas.StampFaultLemmas as lemmas
use Rattle.timefd_laws.proofs.reading.fault_laws.errors_name_read.Goals as goal

pub returns : goal.returns
returns c = lemmas.errors_name_read
