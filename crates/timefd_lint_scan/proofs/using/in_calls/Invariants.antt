use Rattle.timefd_lint_scan.proofs.UsingLemmas.{AreSoFar}
use Rattle.timefd_lint_scan.proofs.using.in_calls.Given as goal

abbrev pub invariant-loop-index : goal.invariant-loop-index
invariant-loop-index l = AreSoFar l.source l.pieces l.aliases.list.now l.aliases.own.now l.index l.frames.items l.uses.items
