use Rattle.timefd_laws.proofs.ReadingLemmas.AgainLemmas as lemmas
use Rattle.timefd_laws.proofs.reading.again_laws.shows_back.Goals as goal

pub returns : goal.returns
returns c = lemmas.shows_back
