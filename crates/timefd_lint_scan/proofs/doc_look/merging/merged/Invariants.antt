use Rattle.timefd_lint_scan.proofs.MergeLemmas.{AreSoFar}
use Rattle.timefd_lint_scan.proofs.doc_look.merging.merged.Given as goal

abbrev pub invariant-loop-at : goal.invariant-loop-at
invariant-loop-at l = AreSoFar l.other l.yielded l.left l.all.items
