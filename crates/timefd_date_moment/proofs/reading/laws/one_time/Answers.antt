use Rattle.timefd_date_moment.proofs.ReadingLemmas.LawLemmas.{one_time}
use Rattle.timefd_date_moment.proofs.reading.laws.one_time.Goals as goal

pub returns : goal.returns
returns c = one_time
