use Rattle.timefd_date_moment.proofs.ReadingLemmas.LawLemmas.{one_date}
use Rattle.timefd_date_moment.proofs.reading.laws.one_date.Goals as goal

pub returns : goal.returns
returns c = one_date
