use Rattle.timefd_lint_scan.proofs.UsingLemmas.{AreLoopsSoFar}
use Rattle.timefd_lint_scan.proofs.using.in_loops.Given as goal

abbrev pub invariant-loop-index : goal.invariant-loop-index
invariant-loop-index l = AreLoopsSoFar l.source l.pieces l.uses.list.now l.index l.lists.items
