use Rattle.std.proofs.Common.{◌≡◌, length}
use Rattle.timefd_lint_scan.specs.Marks as spec
use Rattle.timefd_lint_scan.proofs.marks.still_open.Given as goal

-- The answer for the rest is the answer for everything.
abbrev pub invariant-marks : goal.invariant-marks
invariant-marks l = spec.still_open l.position l.rest ≡ spec.still_open l.position l.marks

abbrev pub decreases-marks : goal.decreases-marks
decreases-marks l = length l.rest
