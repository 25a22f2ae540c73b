use Rattle.std.proofs.Common.{◌≡◌, length}
use Rattle.timefd_lint_scan.specs.Keys.Passing.{reaching}
use Rattle.timefd_lint_scan.proofs.keys.passing.reaching.Given as goal

-- The answer for the rest is the answer for everything.
abbrev pub invariant-bytes : goal.invariant-bytes
invariant-bytes l = reaching l.wanted l.rest ≡ reaching l.wanted l.fn.text

abbrev pub decreases-bytes : goal.decreases-bytes
decreases-bytes l = length l.rest
