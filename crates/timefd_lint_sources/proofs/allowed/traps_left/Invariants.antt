use Rattle.std.proofs.Common.{◌≡◌, ◌++◌, flat_map, drop}
use Rattle.timefd_lint_sources.specs.Allowed as spec
use Rattle.timefd_lint_sources.proofs.allowed.traps_left.Given as goal

abbrev pub invariant-loop-trap : goal.invariant-loop-trap
invariant-loop-trap l =
    l.left.items ++ flat_map (spec.unless_trap l.source l.description) (drop l.trap-index l.found)
    ≡ flat_map (spec.unless_trap l.source l.description) l.found
