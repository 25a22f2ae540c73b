use Rattle.std.proofs.Common.{◌≡◌, length}
use Rattle.timefd_lint_scan.specs.Written.{closes_nowhere}
use Rattle.timefd_lint_scan.proofs.written.closes_nowhere.Given as goal

-- The answer for the rest is the answer for everything.
abbrev pub invariant-bytes : goal.invariant-bytes
invariant-bytes l = closes_nowhere l.hash_count l.rest ≡ closes_nowhere l.hash_count l.fn.text

abbrev pub decreases-bytes : goal.decreases-bytes
decreases-bytes l = length l.rest
