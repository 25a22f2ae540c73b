use Rattle.std.proofs.Common.{◌≡◌, length}
use Rattle.timefd_lint_sources.specs.Allowed as spec
use Rattle.timefd_lint_sources.proofs.allowed.levels_left.Given as goal

-- The answer for the rest is the answer for everything.
abbrev pub invariant-warnings : goal.invariant-warnings
invariant-warnings l =
    spec.levels_left_of l.source l.description l.left l.warnings
    ≡ spec.levels_left l.source l.description l.fn.found

abbrev pub decreases-warnings : goal.decreases-warnings
decreases-warnings l = length l.warnings
