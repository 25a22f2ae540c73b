use Rattle.std.proofs.Common.{◌≡◌, ◌≤◌, length}
use Rattle.timefd_lint_scan.specs.Uses.{AreRuns}
use Rattle.timefd_lint_scan.proofs.runs.runs_of.Given as goal

abbrev pub invariant-uses : goal.invariant-uses
invariant-uses l = record {
  count : length l.runs.items ≡ length l.uses;
  within : l.left ≤ length l.uses;
  runs : AreRuns l.uses l.left l.runs.items;
}

abbrev pub decreases-uses : goal.decreases-uses
decreases-uses l = l.left
