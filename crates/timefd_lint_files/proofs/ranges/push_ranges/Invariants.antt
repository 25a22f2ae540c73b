use Rattle.std.proofs.Common.{◌≤◌, length}
use Rattle.timefd_lint_files.proofs.ClassLemmas.{GoesOn}
use Rattle.timefd_lint_files.proofs.ranges.push_ranges.Given as goal

abbrev pub invariant-class : goal.invariant-class
invariant-class l = record {
  so_far : GoesOn l.fn.text l.fn.ranges.items l.ranges.items l.is_first l.rest;
  within : length l.rest ≤ length l.fn.text;
}

abbrev pub decreases-class : goal.decreases-class
decreases-class l = length l.rest
