use Rattle.std.proofs.Common.{◌≡◌, ◌++◌, flat_map, drop}
use Rattle.timefd_lint_drawing.specs.Sarif.{uri_byte}
use Rattle.timefd_lint_drawing.proofs.sarif.push_encoded.Given as goal

abbrev pub invariant-loop-byte : goal.invariant-loop-byte
invariant-loop-byte l = l.out.items ++ flat_map uri_byte (drop l.byte-index l.path)
    ≡ l.fn.out.items ++ flat_map uri_byte l.path
