use Rattle.timefd_laws.proofs.ReadingLemmas.ShortYearLemmas as lemmas
use Rattle.timefd_laws.proofs.reading.written_laws.writes_short_years.Goals as goal

pub returns : goal.returns
returns c = lemmas.writes_short_years
