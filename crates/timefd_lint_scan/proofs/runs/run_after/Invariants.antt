use Rattle.std.proofs.Common.{◌<◌, ◌≤◌, ◌-◌, ◌≡◌, length}
use Rattle.timefd_lint_scan.specs.Uses.{AreNotBefore}
use Rattle.timefd_lint_scan.proofs.runs.run_after.Given as goal

abbrev pub invariant-uses : goal.invariant-uses
invariant-uses l = record {
  further : l.index < l.next;
  run : AreNotBefore l.uses l.index l.next;
}

abbrev pub decreases-uses : goal.decreases-uses
decreases-uses l = length l.uses - l.next
