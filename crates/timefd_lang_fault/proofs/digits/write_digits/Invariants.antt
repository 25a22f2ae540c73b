use Rattle.std.proofs.Common.{◌≡◌, ◌+◌, ◌<◌, ◌≤◌, ◌++◌, length, drop}
use Rattle.std.specs.Fmt.{decimal}
use Rattle.timefd_lang_fault.proofs.digits.write_digits.Given as goal

-- the digits that are left have room, and those after them are written
abbrev pub invariant-loop-left : goal.invariant-loop-left
invariant-loop-left l =
    (length (decimal l.left) ≤ l.start + 1) × (l.start < 20) × (length l.bytes ≡ 20)
    × (decimal l.left ++ drop (l.start + 1) l.bytes ≡ decimal l.number)

abbrev pub decreases-loop-left : goal.decreases-loop-left
decreases-loop-left l = l.left
