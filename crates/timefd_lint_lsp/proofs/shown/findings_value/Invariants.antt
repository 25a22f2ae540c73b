use Rattle.timefd_lint_lsp.specs.Shown as spec
use Rattle.timefd_lint_lsp.proofs.ShownLemmas.{AreSoFar}
use Rattle.timefd_lint_lsp.proofs.shown.findings_value.Given as goal

abbrev pub invariant-loop-finding : goal.invariant-loop-finding
invariant-loop-finding l = AreSoFar spec.finding_data l.findings l.finding-index l.values.items
