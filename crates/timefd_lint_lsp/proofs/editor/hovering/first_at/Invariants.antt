use Rattle.std.proofs.Common.{◌≡◌, drop}
use Rattle.timefd_lint_lsp.specs.Editor.Hovers.{first_at}
use Rattle.timefd_lint_lsp.proofs.editor.hovering.first_at.Given as goal

-- The remaining descriptions decide.
abbrev pub invariant-loop-description : goal.invariant-loop-description
invariant-loop-description l =
    first_at (drop l.description-index l.descriptions) l.index ≡ first_at l.descriptions l.index
