use Rattle.timefd_laws.proofs.ReadingLemmas.AgainLemmas as lemmas
use Rattle.timefd_laws.proofs.reading.again_laws.fields_again.Goals as goal

pub returns : goal.returns
returns c = lemmas.fields_again
