use Rattle.std.proofs.Common.{◌≡◌, drop}
use Rattle.timefd_lint_lsp.specs.Editor.Scans.{scanned, scanned_from}
use Rattle.timefd_lint_lsp.proofs.editor.scan.scanned.Given as goal

-- The remaining bytes decide.
abbrev pub invariant-loop-byte : goal.invariant-loop-byte
invariant-loop-byte l =
    scanned_from l.version l.scan (drop l.byte-index l.text) ≡ scanned l.version l.text
