use Rattle.std.proofs.Common.{◌≡◌, length}
use Rattle.timefd_lint_scan.specs.Declarations as spec
use Rattle.timefd_lint_scan.proofs.shadow.is_assigned.Given as goal

-- The answer for the rest is the answer for everything.
abbrev pub invariant-tokens : goal.invariant-tokens
invariant-tokens l = spec.is_assigned l.source l.left l.rest ≡ spec.is_assigned l.source spec.most_tokens l.pieces

abbrev pub decreases-tokens : goal.decreases-tokens
decreases-tokens l = length l.rest
