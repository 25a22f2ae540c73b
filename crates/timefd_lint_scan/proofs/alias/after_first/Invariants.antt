use Rattle.std.proofs.Common.{◌≡◌, length}
use Rattle.timefd_lint_scan.specs.Aliases as spec
use Rattle.timefd_lint_scan.proofs.alias.after_first.Given as goal

-- The answer for the rest is the answer for everything.
abbrev pub invariant-tokens : goal.invariant-tokens
invariant-tokens l = spec.after_first l.source l.sign l.rest ≡ spec.after_first l.source l.sign l.pieces

abbrev pub decreases-tokens : goal.decreases-tokens
decreases-tokens l = length l.rest
