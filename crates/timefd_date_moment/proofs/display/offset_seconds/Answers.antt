use Rattle.std.proofs.Common.{arith}
use Rattle.std.proofs.lemmas.Grind.{common_steps}
use Rattle.timefd_date_moment.specs.Display.{offset_seconds_text}
use Rattle.timefd_date_moment.proofs.display.offset_seconds.Goals as goal

pub returns-then-seconds-eq0 : goal.returns-then-seconds-eq0
unfolding offset_seconds_text
returns-then-seconds-eq0 g c = grind (arith, common_steps)

pub returns : goal.returns
unfolding offset_seconds_text
returns g c = grind (arith, common_steps)
