use Rattle.timefd_lint_lsp.specs.Shown as spec
use Rattle.timefd_lint_lsp.proofs.ShownLemmas.{AreSoFar}
use Rattle.timefd_lint_lsp.proofs.shown.actions_value.Given as goal

abbrev pub invariant-loop-action : goal.invariant-loop-action
invariant-loop-action l = AreSoFar (spec.action_data l.fn.uri) l.actions l.action-index l.values.items
