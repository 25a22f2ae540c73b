use Rattle.std.proofs.Common.{◌≡◌, length}
use Rattle.std.specs.Prelude.{if◌then◌else◌}
use Rattle.timefd_lint_scan.specs.Chrono.{is_of_jiff, is_of_jiff_after}
use Rattle.timefd_lint_scan.proofs.chrono.is_of_jiff.Given as goal

-- The answer for the rest is the answer for everything.
abbrev pub invariant-bytes : goal.invariant-bytes
invariant-bytes l = (if l.is_after_percent then is_of_jiff_after l.rest else is_of_jiff l.rest)
    ≡ is_of_jiff l.fn.text

abbrev pub decreases-bytes : goal.decreases-bytes
decreases-bytes l = length l.rest
