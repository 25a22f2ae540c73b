use Rattle.std.proofs.Common.{◌≡◌, ◌≤◌, drop, length, reverse}
use Rattle.timefd_lint_scan.specs.Layouts.{AreEnds, closings}
use Rattle.timefd_lint_scan.proofs.blocks.ends_of.Given as goal

abbrev pub invariant-tokens : goal.invariant-tokens
invariant-tokens l = record {
  within : l.left ≤ length l.pieces;
  counted : l.count ≤ length l.declared;
  closed : l.closings.items ≡ reverse (closings l.source (drop l.left l.pieces));
  ends : AreEnds l.source l.pieces l.ends.items;
}

abbrev pub decreases-tokens : goal.decreases-tokens
decreases-tokens l = l.left
