use Rattle.std.proofs.Common.{◌≡◌, ◌-◌, ◌≤◌, length, replicate, string_bytes}
use Rattle.timefd_test_uses.proofs.position.caret_line.Given as goal

-- so far there are only spaces
abbrev pub invariant-spaces : goal.invariant-spaces
invariant-spaces l = record {
  within : length (string_bytes l.line) ≤ l.spaces;
  only : string_bytes l.line ≡ replicate (length (string_bytes l.line)) 32;
}

abbrev pub decreases-spaces : goal.decreases-spaces
decreases-spaces l = l.spaces - length (string_bytes l.line)
