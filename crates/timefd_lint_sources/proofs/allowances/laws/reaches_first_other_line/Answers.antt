use Rattle.timefd_lint_sources.proofs.ReachLemmas.{covers}
use Rattle.timefd_lint_sources.proofs.allowances.laws.reaches_first_other_line.Goals as goal

pub returns : goal.returns
returns c = covers
