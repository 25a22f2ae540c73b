use Rattle.std.proofs.Common.{arith}
use Rattle.std.proofs.lemmas.Grind.{common_steps}
use Rattle.timefd_date_moment.specs.Display.{unix_text}
use Rattle.timefd_date_moment.proofs.display.UnixTimeDisplay.fmt.Goals as goal

pub returns : goal.returns
unfolding unix_text
returns g c = grind (arith, common_steps)
