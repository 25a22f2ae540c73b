use Rattle.std.proofs.Common.{◌≡◌, length}
use Rattle.std.specs.Prelude.{if◌then◌else◌}
use Rattle.timefd_lint_scan.specs.Dates as spec
use Rattle.timefd_lint_scan.proofs.dates.has_other.Given as goal

-- The answer for the rest is the answer for everything.
abbrev pub invariant-bytes : goal.invariant-bytes
invariant-bytes l = (if l.is_after_percent then spec.has_other_after l.rest else spec.has_other l.rest) ≡ spec.has_other l.fn.text

abbrev pub decreases-bytes : goal.decreases-bytes
decreases-bytes l = length l.rest
