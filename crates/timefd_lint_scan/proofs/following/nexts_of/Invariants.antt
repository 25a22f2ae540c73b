use Rattle.std.proofs.Common.{◌≡◌, ◌≤◌, length}
use Rattle.std.specs.HashMap.{get}
use Rattle.std.specs.Prelude.{nat_eq}
use Rattle.timefd_lint_scan.specs.Following.{AreNexts}
use Rattle.timefd_lint_scan.specs.FoundUses.{AreFirsts}
use Rattle.timefd_lint_scan.proofs.following.nexts_of.Given as goal

abbrev pub invariant-uses : goal.invariant-uses
invariant-uses l = record {
  count : length l.nexts.items ≡ length l.uses;
  within : l.left ≤ length l.uses;
  nexts : AreNexts l.source l.uses l.left l.nexts.items;
  kept : AreFirsts l.source l.uses l.left (get nat_eq l.firsts);
}

abbrev pub decreases-uses : goal.decreases-uses
decreases-uses l = l.left
