use Rattle.std.proofs.Common.{◌≡◌, drop}
use Rattle.timefd_lint_lsp.specs.Editor.Cursors.{start_from, word_start}
use Rattle.timefd_lint_lsp.proofs.editor.cursor.word_start.Given as goal

-- The remaining bytes decide.
abbrev pub invariant-loop-index : goal.invariant-loop-index
invariant-loop-index l = start_from l.start l.index (drop l.index l.bytes) ≡ word_start l.bytes
