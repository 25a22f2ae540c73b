use Rattle.timefd_lint_lsp.specs.Shown as spec
use Rattle.timefd_lint_lsp.proofs.ShownLemmas.{AreSoFar}
use Rattle.timefd_lint_lsp.proofs.shown.edit_list.Given as goal

abbrev pub invariant-loop-edit : goal.invariant-loop-edit
invariant-loop-edit l = AreSoFar spec.edit_data l.edits l.edit-index l.values.items
