use Rattle.std.proofs.Common.{◌≡◌, ◌++◌, flat_map, drop}
use Rattle.timefd_lint_sources.specs.Others.{trap_in}
use Rattle.timefd_lint_sources.proofs.other.push_traps.Given as goal

abbrev pub invariant-loop-trap : goal.invariant-loop-trap
invariant-loop-trap l =
    l.message.items ++ flat_map (trap_in l.style l.source l.description) (drop l.trap-index l.found)
    ≡ l.fn.message.items ++ flat_map (trap_in l.style l.source l.description) l.found
