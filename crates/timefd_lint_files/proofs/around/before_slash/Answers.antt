use Rattle.timefd_lint_files.proofs.AroundLemmas.{before_last}
use Rattle.timefd_lint_files.proofs.around.before_slash.Goals as goal

pub returns-in-Some : goal.returns-in-Some
returns-in-Some c = before_last c.args.path.now c.in-Some.front.now c.in-Some.field-0-1.now c.in-Some.ensures.cases
