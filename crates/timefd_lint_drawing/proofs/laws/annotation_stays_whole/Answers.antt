use Rattle.timefd_lint_drawing.proofs.GithubLemmas.{annotation_stays_whole}
use Rattle.timefd_lint_drawing.proofs.laws.annotation_stays_whole.Goals as goal

pub returns : goal.returns
returns c = annotation_stays_whole
