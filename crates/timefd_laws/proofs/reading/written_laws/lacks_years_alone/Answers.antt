use Rattle.timefd_laws.proofs.ReadingLemmas.ShortYearLemmas as lemmas
use Rattle.timefd_laws.proofs.reading.written_laws.lacks_years_alone.Goals as goal

pub returns : goal.returns
returns c = lemmas.lacks_years_alone
