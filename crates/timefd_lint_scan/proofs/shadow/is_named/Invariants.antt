use Rattle.std.proofs.Common.{◌≡◌, length}
use Rattle.timefd_lint_scan.specs.Declarations as spec
use Rattle.timefd_lint_scan.proofs.shadow.is_named.Given as goal

-- The answer for the rest is the answer for everything.
abbrev pub invariant-tokens : goal.invariant-tokens
invariant-tokens l = spec.is_named l.source l.name l.position l.last l.rest
    ≡ spec.is_named l.source l.name l.position l.fn.before l.fn.pieces

abbrev pub decreases-tokens : goal.decreases-tokens
decreases-tokens l = length l.rest
