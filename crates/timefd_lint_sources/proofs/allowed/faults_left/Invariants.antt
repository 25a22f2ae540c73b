use Rattle.std.proofs.Common.{◌≡◌, flat_map}
use Rattle.timefd_lint_sources.specs.Allowed as spec
use Rattle.timefd_lint_sources.proofs.allowed.faults_left.Given as goal

abbrev pub invariant-loop-diagnostic : goal.invariant-loop-diagnostic
invariant-loop-diagnostic l =
    l.left.items ≡ flat_map (spec.unless_allowed l.source l.description) l.yielded
