use Rattle.std.proofs.Common.{◌≡◌, ◌≤◌, length}
use Rattle.timefd_lint_scan.specs.AliasNotes.{AreBegun}
use Rattle.timefd_lint_scan.proofs.AliasNoteLemmas.{AreLater}
use Rattle.timefd_lint_scan.proofs.alias_notes.begins_of.Given as goal

abbrev pub invariant-aliases : goal.invariant-aliases
invariant-aliases l = record {
  count : length l.begins.items ≡ length l.list;
  within : l.left ≤ length l.list;
  later : AreLater l.list l.left l.first;
  begun : AreBegun l.list l.left l.begins.items;
}

abbrev pub decreases-aliases : goal.decreases-aliases
decreases-aliases l = l.left
