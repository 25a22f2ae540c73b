use Rattle.timefd_laws.proofs.ReadingLemmas.TreeLemmas as lemmas
use Rattle.timefd_laws.proofs.reading.laws.reads_back.Goals as goal

pub returns : goal.returns
returns c = lemmas.reads_back
