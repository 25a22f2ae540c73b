use Rattle.timefd_date_moment.proofs.ReadingLemmas.LawLemmas.{one_offset}
use Rattle.timefd_date_moment.proofs.reading.laws.one_offset.Goals as goal

pub returns : goal.returns
returns c = one_offset
