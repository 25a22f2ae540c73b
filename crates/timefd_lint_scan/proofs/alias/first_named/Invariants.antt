use Rattle.std.proofs.Common.{◌≡◌, length}
use Rattle.timefd_lint_scan.specs.Aliases as spec
use Rattle.timefd_lint_scan.proofs.alias.first_named.Given as goal

-- The answer for the rest is the answer for everything.
abbrev pub invariant-aliases : goal.invariant-aliases
invariant-aliases l = spec.original_of l.source l.name l.position l.rest
    ≡ spec.original_of l.source l.name l.position l.aliases

abbrev pub decreases-aliases : goal.decreases-aliases
decreases-aliases l = length l.rest
