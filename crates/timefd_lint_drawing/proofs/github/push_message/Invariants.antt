use Rattle.std.proofs.Common.{◌≡◌, ◌++◌, flat_map, drop}
use Rattle.timefd_lint_drawing.specs.Github.{message_byte}
use Rattle.timefd_lint_drawing.proofs.github.push_message.Given as goal

abbrev pub invariant-loop-byte : goal.invariant-loop-byte
invariant-loop-byte l = l.out.items ++ flat_map message_byte (drop l.byte-index l.message)
    ≡ l.fn.out.items ++ flat_map message_byte l.message
