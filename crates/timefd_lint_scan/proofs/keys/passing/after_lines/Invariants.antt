use Rattle.std.proofs.Common.{◌≡◌, false, length}
use Rattle.timefd_lint_scan.specs.Keys.Passing.{after_lines}
use Rattle.timefd_lint_scan.proofs.keys.passing.after_lines.Given as goal

-- The answer for the rest is the answer for everything.
abbrev pub invariant-bytes : goal.invariant-bytes
invariant-bytes l =
    after_lines l.quotes l.has_escapes l.is_escaped l.rest ≡ after_lines l.quotes l.has_escapes false l.fn.text

abbrev pub decreases-bytes : goal.decreases-bytes
decreases-bytes l = length l.rest
