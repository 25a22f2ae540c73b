use Rattle.std.proofs.Common.{◌≡◌, drop}
use Rattle.timefd_lint_files.specs.Matching.{is_within_any}
use Rattle.timefd_lint_files.proofs.class.is_within_any.Given as goal

-- The remaining ranges decide.
abbrev pub invariant-loop-range : goal.invariant-loop-range
invariant-loop-range l =
    is_within_any (drop l.range-index l.ranges) l.byte ≡ is_within_any l.fn.ranges l.fn.byte
