use Rattle.std.proofs.Common.{arith}
use Rattle.std.proofs.lemmas.Grind.{common_steps}
use Rattle.timefd_date_moment.specs.Display.{time_text}
use Rattle.timefd_date_moment.proofs.display.TimeDisplay.fmt.Goals as goal

pub returns : goal.returns
unfolding time_text
returns g c = grind (arith, common_steps)
