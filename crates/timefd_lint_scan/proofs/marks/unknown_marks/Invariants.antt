use Rattle.timefd_lint_scan.specs.Marks as spec
use Rattle.timefd_lint_scan.proofs.EachLemmas.{AreSoFar}
use Rattle.timefd_lint_scan.proofs.marks.unknown_marks.Given as goal

abbrev pub invariant-loop-piece : goal.invariant-loop-piece
invariant-loop-piece l = AreSoFar (spec.unknown_mark l.source) l.pieces l.piece-index l.positions.items
