use Rattle.std.proofs.Common.{◌≡◌, drop}
use Rattle.timefd_lint_lsp.specs.Editor.Positions.{walked}
use Rattle.timefd_lint_lsp.proofs.editor.walk.CountingWalk.through.Given as goal

-- The remaining bytes decide.
abbrev pub invariant-loop-byte : goal.invariant-loop-byte
invariant-loop-byte l = walked l.walk (drop l.byte-index l.bytes) ≡ walked l.fn.self l.bytes
