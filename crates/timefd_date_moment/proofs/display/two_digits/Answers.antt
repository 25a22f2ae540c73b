use Rattle.std.proofs.Common.{rules, arith}
use Rattle.std.proofs.lemmas.Grind.{common_steps}
use Rattle.timefd_date_moment.specs.Display.{two_digits}
use Rattle.timefd_date_moment.proofs.display.two_digits.Goals as goal

pub returns-then-n-ge100 : goal.returns-then-n-ge100
unfolding two_digits
returns-then-n-ge100 g c = search rules

pub returns : goal.returns
unfolding two_digits
returns g c = grind (arith, common_steps)
