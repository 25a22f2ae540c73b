use Rattle.std.proofs.Common.{take}
use Rattle.timefd_lint_scan.specs.Written.{IsWritten}
use Rattle.timefd_lint_scan.proofs.written.with_escapes.Given as goal

abbrev pub invariant-loop-byte : goal.invariant-loop-byte
invariant-loop-byte l = IsWritten l.encoding (take l.byte-index l.text) l.body.items
