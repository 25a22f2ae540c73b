use Rattle.std.proofs.Common.{◌≡◌, length}
use Rattle.timefd_lint_scan.specs.Grammar.{is_body}
use Rattle.timefd_lint_scan.proofs.alike.is_body.Given as goal

-- The answer for the rest is the answer for everything.
abbrev pub invariant-bytes : goal.invariant-bytes
invariant-bytes l = is_body l.rest ≡ is_body l.fn.body

abbrev pub decreases-bytes : goal.decreases-bytes
decreases-bytes l = length l.rest
