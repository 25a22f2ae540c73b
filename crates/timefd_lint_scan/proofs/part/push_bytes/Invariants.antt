use Rattle.std.proofs.Common.{◌≡◌, ◌++◌, drop}
use Rattle.timefd_lint_scan.specs.Escapes.{all_at}
use Rattle.timefd_lint_scan.proofs.part.push_bytes.Given as goal

abbrev pub invariant-loop-byte : goal.invariant-loop-byte
invariant-loop-byte l = record {
  text : l.text.items ++ drop l.byte-index l.bytes ≡ l.fn.text.items ++ l.bytes;
  positions : l.positions.items ++ all_at l.position (drop l.byte-index l.bytes) ≡ l.fn.positions.items ++ all_at l.position l.bytes;
}
