use Rattle.std.proofs.Common.{◌≡◌, length}
use Rattle.timefd_lint_sources.specs.Allowances.Found as spec
use Rattle.timefd_lint_sources.proofs.allowed.any_allows.Given as goal

-- The answer for the rest is the answer for everything.
abbrev pub invariant-comments : goal.invariant-comments
invariant-comments l =
    spec.any_allows l.source l.left l.at l.code ≡ spec.any_allows l.source l.allowances l.at l.code

abbrev pub decreases-comments : goal.decreases-comments
decreases-comments l = length l.left
