use Rattle.std.specs.Option.{option_to_list}
use Rattle.timefd_lint_scan.specs.Marks as spec
use Rattle.timefd_lint_scan.proofs.EachLemmas.{AreSoFar}
use Rattle.timefd_lint_scan.proofs.marks.marks_of.Given as goal

abbrev pub invariant-loop-piece : goal.invariant-loop-piece
invariant-loop-piece l = AreSoFar (λ p. option_to_list (spec.mark_at l.source p)) l.pieces l.piece-index l.marks.items
