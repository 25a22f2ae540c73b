use Rattle.std.proofs.Common.{◌≡◌, ◌++◌, flat_map, drop}
use Rattle.timefd_lint_warnings.specs.Dialects.Judging.{trap_drawn}
use Rattle.timefd_lint.proofs.drawn.traps_drawn.Given as goal

abbrev pub invariant-loop-trap : goal.invariant-loop-trap
invariant-loop-trap l =
    l.message.items ++ flat_map (trap_drawn l.style l.origin l.text) (drop l.trap-index l.traps)
    ≡ flat_map (trap_drawn l.style l.origin l.text) l.traps
