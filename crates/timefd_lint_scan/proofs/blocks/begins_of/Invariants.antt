use Rattle.timefd_lint_scan.proofs.BeginLemmas.{AreSoFar}
use Rattle.timefd_lint_scan.proofs.blocks.begins_of.Given as goal

abbrev pub invariant-loop-index : goal.invariant-loop-index
invariant-loop-index l = AreSoFar l.source l.pieces l.index l.end l.openings.items l.begins.items
