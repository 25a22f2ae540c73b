use Rattle.std.proofs.Common.{arith}
use Rattle.std.proofs.lemmas.Grind.{common_steps}
use Rattle.timefd_date_moment.specs.Display.{fraction_text}
use Rattle.timefd_date_moment.proofs.display.fraction.Goals as goal

pub returns-then-nanosecond-eq0 : goal.returns-then-nanosecond-eq0
unfolding fraction_text
returns-then-nanosecond-eq0 g c = grind (arith, common_steps)

pub returns : goal.returns
unfolding fraction_text
returns g c = grind (arith, common_steps)
