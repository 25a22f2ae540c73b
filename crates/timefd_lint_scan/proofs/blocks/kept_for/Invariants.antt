use Rattle.std.proofs.Common.{◌≤◌, ◌-◌, length}
use Rattle.timefd_lint_scan.proofs.blocks.kept_for.Given as goal

abbrev pub invariant-halves : goal.invariant-halves
invariant-halves l = record {
  ordered : l.low ≤ l.high;
  within : l.high ≤ length l.kept;
}

abbrev pub decreases-halves : goal.decreases-halves
decreases-halves l = l.high - l.low
