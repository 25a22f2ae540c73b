use Rattle.timefd_laws.proofs.ReadingLemmas.FaultLemmas as lemmas
use Rattle.timefd_laws.proofs.reading.fault_laws.one_answer.Goals as goal

pub returns : goal.returns
returns c = lemmas.one_answer
