use Rattle.timefd_laws.proofs.ReadingLemmas.PlainLemmas as lemmas
use Rattle.timefd_laws.proofs.reading.again_laws.parts_read.Goals as goal

pub returns : goal.returns
returns c = lemmas.parts_read
