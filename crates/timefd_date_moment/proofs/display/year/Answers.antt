use Rattle.std.proofs.Common.{arith}
use Rattle.std.proofs.lemmas.Grind.{common_steps}
use Rattle.timefd_date_moment.specs.Display.{year_text}
use Rattle.timefd_date_moment.proofs.display.year.Goals as goal

pub returns : goal.returns
unfolding year_text
returns g c = grind (arith, common_steps)
