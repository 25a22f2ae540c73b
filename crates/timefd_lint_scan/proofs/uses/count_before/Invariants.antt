use Rattle.std.proofs.Common.{◌≡◌, ◌≤◌, ◌-◌, length}
use Rattle.timefd_lint_scan.specs.Uses.{AreBefore}
use Rattle.timefd_lint_scan.proofs.uses.count_before.Given as goal

abbrev pub invariant-halves : goal.invariant-halves
invariant-halves l = record {
  before : AreBefore l.at l.low l.uses.list.now;
  ordered : l.low ≤ l.high;
  within : l.high ≤ length l.furthest;
  same : l.furthest ≡ l.uses.furthest.now;
}

abbrev pub decreases-halves : goal.decreases-halves
decreases-halves l = l.high - l.low
