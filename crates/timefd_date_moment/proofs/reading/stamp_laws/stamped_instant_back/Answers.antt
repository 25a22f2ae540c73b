use Rattle.timefd_date_moment.proofs.ReadingLemmas.StampLawLemmas.{stamped_instant_back}
use Rattle.timefd_date_moment.proofs.reading.stamp_laws.stamped_instant_back.Goals as goal

pub returns : goal.returns
returns c = stamped_instant_back
