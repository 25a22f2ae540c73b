use Rattle.timefd_format.proofs.JiffLemmas.DayLemmas as days
use Rattle.timefd_format.proofs.from_jiff.laws.same_days.Goals as goal

pub returns : goal.returns
returns c = days.same_days
