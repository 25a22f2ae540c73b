use Rattle.timefd_lint_lsp.proofs.ChangeLemmas.{AreSoFar}
use Rattle.timefd_lint_lsp.proofs.changes.all_changes.Given as goal

abbrev pub invariant-loop-value : goal.invariant-loop-value
invariant-loop-value l = AreSoFar l.values l.value-index l.changes.items
