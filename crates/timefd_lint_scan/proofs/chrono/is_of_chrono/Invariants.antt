use Rattle.std.proofs.Common.{◌≡◌, length}
use Rattle.std.specs.Prelude.{if◌then◌else◌}
use Rattle.timefd_lint_scan.specs.Chrono.{is_of_chrono, is_of_chrono_after}
use Rattle.timefd_lint_scan.proofs.chrono.is_of_chrono.Given as goal

-- The answer for the rest is the answer for everything.
abbrev pub invariant-bytes : goal.invariant-bytes
invariant-bytes l = (if l.is_after_percent then is_of_chrono_after l.rest else is_of_chrono l.rest)
    ≡ is_of_chrono l.fn.text

abbrev pub decreases-bytes : goal.decreases-bytes
decreases-bytes l = length l.rest
