use Rattle.std.proofs.Common.{◌≡◌, length}
use Rattle.timefd_lint_sources.specs.Allowances.Keyed as spec
use Rattle.timefd_lint_sources.proofs.allowances.keyed.comment_in.Given as goal

-- The answer for the rest is the answer for everything.
abbrev pub invariant-bytes : goal.invariant-bytes
invariant-bytes l =
    spec.comment_in l.format l.state l.left ≡ spec.comment_in l.format spec.at_start l.fn.line

abbrev pub decreases-bytes : goal.decreases-bytes
decreases-bytes l = length l.left
