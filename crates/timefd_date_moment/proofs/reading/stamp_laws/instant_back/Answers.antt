use Rattle.timefd_date_moment.proofs.ReadingLemmas.StampLawLemmas.{instant_back}
use Rattle.timefd_date_moment.proofs.reading.stamp_laws.instant_back.Goals as goal

pub returns : goal.returns
returns c = instant_back
