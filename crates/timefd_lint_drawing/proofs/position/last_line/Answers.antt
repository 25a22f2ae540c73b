use Rattle.timefd_lint_drawing.proofs.PositionLemmas.{after_last, without_newline}
use Rattle.timefd_lint_drawing.proofs.position.last_line.Goals as goal

pub returns-in-Some : goal.returns-in-Some
returns-in-Some c = after_last c.args.text.now _ c.in-Some.line.now c.in-Some.ensures.cases

pub returns-in-None : goal.returns-in-None
returns-in-None c = without_newline c.args.text.now c.in-None.ensures.cases
