use Rattle.timefd_laws.proofs.ReadingLemmas.ComesBackLemmas as lemmas
use Rattle.timefd_laws.proofs.reading.written_laws.comes_back.Goals as goal

pub returns : goal.returns
returns c = lemmas.comes_back
