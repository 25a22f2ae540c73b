use Rattle.std.proofs.Common.{◌≡◌, ◌+◌, drop}
use Rattle.timefd_lint_lsp.specs.Editor.Positions.{index_of, passed}
use Rattle.timefd_lint_lsp.proofs.editor.position.index_of.Given as goal

-- The remaining bytes decide.
abbrev pub invariant-loop-index : goal.invariant-loop-index
invariant-loop-index l =
    l.index + passed l.walk l.position (drop l.index l.bytes) ≡ index_of l.text l.position
