use Rattle.std.proofs.Common.{◌≡◌, ◌++◌, flat_map, drop}
use Rattle.timefd_lint_drawing.specs.Github.{property_byte}
use Rattle.timefd_lint_drawing.proofs.github.push_value.Given as goal

abbrev pub invariant-loop-byte : goal.invariant-loop-byte
invariant-loop-byte l = l.out.items ++ flat_map property_byte (drop l.byte-index l.value)
    ≡ l.fn.out.items ++ flat_map property_byte l.value
