use Rattle.std.proofs.Common.{◌≡◌, drop}
use Rattle.timefd_lint_lsp.specs.Editor.Hovers.{index_from, index_in}
use Rattle.timefd_lint_lsp.proofs.editor.hovering.index_in.Given as goal

-- The remaining positions decide.
abbrev pub invariant-loop-index : goal.invariant-loop-index
invariant-loop-index l = index_from l.at l.index (drop l.index l.positions) l.position ≡ index_in l.positions l.position
