use Rattle.timefd_laws.proofs.ReadingLemmas.ValueBackLemmas as lemmas
use Rattle.timefd_laws.proofs.reading.value_laws.date_read_back.Goals as goal

pub returns : goal.returns
returns c = lemmas.date_read_back
