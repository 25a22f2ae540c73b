use Rattle.std.proofs.Common.{◌-◌, ◌≤◌, length}
use Rattle.std.specs.HashSet.{contains}
use Rattle.std.specs.Prelude.{nat_eq}
use Rattle.timefd_lint_scan.specs.NamedCalls.{AddsCalls, IsSure}
use Rattle.timefd_lint_scan.proofs.named_calls.note_calls.Given as goal

abbrev pub invariant-uses : goal.invariant-uses
invariant-uses l = record {
  within : l.end ≤ length l.uses.list.now;
  sure : IsSure l.source l.pieces l.declared l.reach.position;
  added : AddsCalls l.source l.pieces l.uses.list.now l.declared l.known 0 l.index (contains nat_eq l.fn.named) (contains nat_eq l.named);
}

abbrev pub decreases-uses : goal.decreases-uses
decreases-uses l = length l.uses.list.now - l.index
