use Rattle.timefd_date_moment.proofs.ReadingLemmas.StampLawLemmas.{stamped_time_back}
use Rattle.timefd_date_moment.proofs.reading.stamp_laws.stamped_time_back.Goals as goal

pub returns : goal.returns
returns c = stamped_time_back
