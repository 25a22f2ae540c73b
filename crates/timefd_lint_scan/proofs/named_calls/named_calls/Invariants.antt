use Rattle.std.specs.HashSet.{contains}
use Rattle.std.specs.Prelude.{nat_eq}
use Rattle.timefd_lint_scan.specs.NamedCalls.{AreNamedBy}
use Rattle.timefd_lint_scan.proofs.named_calls.named_calls.Given as goal

abbrev pub invariant-loop-declared : goal.invariant-loop-declared
invariant-loop-declared l =
    AreNamedBy l.source l.pieces l.uses.list.now (contains nat_eq l.looked) l.declared (contains nat_eq l.named)
