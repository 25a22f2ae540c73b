use Rattle.timefd_date_moment.proofs.ReadingLemmas.StampLawLemmas.{moment_back}
use Rattle.timefd_date_moment.proofs.reading.stamp_laws.moment_back.Goals as goal

pub returns : goal.returns
returns c = moment_back
