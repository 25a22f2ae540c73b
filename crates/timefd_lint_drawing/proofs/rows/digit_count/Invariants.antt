use Rattle.std.proofs.Common.{◌≡◌, ◌+◌, ◌<◌, length}
use Rattle.std.specs.Fmt.{decimal}
use Rattle.timefd_lint_drawing.proofs.rows.digit_count.Given as goal

-- The digits that are left, and those that are counted.
abbrev pub invariant-loop-left : goal.invariant-loop-left
invariant-loop-left l =
    (length (decimal l.left) + l.count ≡ length (decimal l.number) + 1) × (0 < l.count)

abbrev pub decreases-loop-left : goal.decreases-loop-left
decreases-loop-left l = l.left
