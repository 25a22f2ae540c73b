use Rattle.timefd_lint_scan.proofs.GrammarLemmas.{read_as_literals}
use Rattle.timefd_lint_scan.proofs.laws.read_as_literals.Goals as goal

pub returns : goal.returns
returns c = read_as_literals
