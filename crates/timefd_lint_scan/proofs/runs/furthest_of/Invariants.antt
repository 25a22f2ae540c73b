use Rattle.timefd_lint_scan.proofs.UsesLemmas.{AreSoFar}
use Rattle.timefd_lint_scan.proofs.runs.furthest_of.Given as goal

abbrev pub invariant-loop-used : goal.invariant-loop-used
invariant-loop-used l = AreSoFar l.uses l.used-index l.last l.furthest.items
