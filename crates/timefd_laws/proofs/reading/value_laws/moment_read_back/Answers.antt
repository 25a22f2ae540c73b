use Rattle.timefd_laws.proofs.ReadingLemmas.ValueBackLemmas as lemmas
use Rattle.timefd_laws.proofs.reading.value_laws.moment_read_back.Goals as goal

pub returns : goal.returns
returns c = lemmas.moment_read_back
