use Rattle.timefd_lint_scan.proofs.JoinLemmas.{ArePlaced}
use Rattle.timefd_lint_scan.proofs.doc_look.joining.parts_of.Given as goal

abbrev pub invariant-loop-description : goal.invariant-loop-description
invariant-loop-description l = ArePlaced l.candidates l.yielded l.left l.parts.items
