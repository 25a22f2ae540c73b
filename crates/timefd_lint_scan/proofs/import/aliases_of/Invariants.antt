use Rattle.std.proofs.Common.{◌≡◌, ◌≤◌, drop, length, reverse}
use Rattle.timefd_lint_scan.specs.Aliases.{aliases_in, statement_end}
use Rattle.timefd_lint_scan.specs.Layouts.{closings}
use Rattle.timefd_lint_scan.proofs.import.aliases_of.Given as goal

-- The aliases so far, the last one first, are those of the rest.
abbrev pub invariant-tokens : goal.invariant-tokens
invariant-tokens l = record {
  within : l.left ≤ length l.pieces;
  closed : l.closings.items ≡ reverse (closings l.source (drop l.left l.pieces));
  until : l.until ≡ statement_end l.source (drop l.left l.pieces);
  found : reverse l.aliases.items ≡ aliases_in l.source l.own (drop l.left l.pieces);
}

abbrev pub decreases-tokens : goal.decreases-tokens
decreases-tokens l = l.left
