use Rattle.std.proofs.Common.{◌≡◌, drop}
use Rattle.timefd_lint_lsp.specs.Editor.Completions.{first_touched}
use Rattle.timefd_lint_lsp.proofs.editor.completing.first_touched.Given as goal

-- The remaining descriptions decide.
abbrev pub invariant-loop-description : goal.invariant-loop-description
invariant-loop-description l =
    first_touched (drop l.description-index l.descriptions) l.index ≡ first_touched l.descriptions l.index
