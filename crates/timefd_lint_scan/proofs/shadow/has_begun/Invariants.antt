use Rattle.std.proofs.Common.{◌≡◌, length}
use Rattle.timefd_lint_scan.specs.Declarations as spec
use Rattle.timefd_lint_scan.proofs.shadow.has_begun.Given as goal

-- The answer for the rest is the answer for everything.
abbrev pub invariant-tokens : goal.invariant-tokens
invariant-tokens l = spec.has_begun l.source l.position l.rest ≡ spec.has_begun l.source l.position l.pieces

abbrev pub decreases-tokens : goal.decreases-tokens
decreases-tokens l = length l.rest
