use Rattle.std.proofs.Common.{◌≤◌, length}
use Rattle.std.specs.HashMap.{get}
use Rattle.std.specs.Prelude.{nat_eq}
use Rattle.timefd_lint_scan.specs.FoundUses.{AreFirsts}
use Rattle.timefd_lint_scan.proofs.firsts.firsts_of.Given as goal

abbrev pub invariant-uses : goal.invariant-uses
invariant-uses l = record {
  within : l.left ≤ length l.uses;
  kept : AreFirsts l.source l.uses l.left (get nat_eq l.firsts);
}

abbrev pub decreases-uses : goal.decreases-uses
decreases-uses l = l.left
