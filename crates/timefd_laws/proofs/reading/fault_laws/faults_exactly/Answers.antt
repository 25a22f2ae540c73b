use Rattle.timefd_laws.proofs.ReadingLemmas.FaultLemmas as lemmas
use Rattle.timefd_laws.proofs.reading.fault_laws.faults_exactly.Goals as goal

pub returns : goal.returns
returns c = lemmas.faults_exactly
