use Rattle.std.proofs.Common.{◌≡◌, length}
use Rattle.timefd_lint_sources.specs.Allowances.Found as spec
use Rattle.timefd_lint_sources.proofs.allowed.any_covers.Given as goal

-- The answer for the rest is the answer for everything.
abbrev pub invariant-comments : goal.invariant-comments
invariant-comments l = spec.any_covers l.left l.at ≡ spec.any_covers l.allowances l.at

abbrev pub decreases-comments : goal.decreases-comments
decreases-comments l = length l.left
