use Rattle.std.proofs.Common.{◌≡◌, ◌++◌, length}
use Rattle.timefd_lint_scan.specs.DocLooks.{after_front, front, is_below}
use Rattle.timefd_lint_scan.proofs.doc_look.merging.push_below.Given as goal

-- What is left adds all of it.
abbrev pub invariant-positions : goal.invariant-positions
invariant-positions l = record {
  pushed : l.all.items ++ front (is_below l.limit) l.left ≡ l.fn.all.items ++ front (is_below l.limit) l.positions;
  left : after_front (is_below l.limit) l.left ≡ after_front (is_below l.limit) l.positions;
}

abbrev pub decreases-positions : goal.decreases-positions
decreases-positions l = length l.left
