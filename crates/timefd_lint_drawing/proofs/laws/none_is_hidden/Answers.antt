use Rattle.timefd_lint_drawing.proofs.ShownLemmas.{none_is_hidden}
use Rattle.timefd_lint_drawing.proofs.laws.none_is_hidden.Goals as goal

pub returns : goal.returns
returns c = none_is_hidden
