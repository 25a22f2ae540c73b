use Rattle.timefd_lint_scan.proofs.CandidateLemmas.{AreSoFar}
use Rattle.timefd_lint_scan.proofs.description.described_by.Given as goal

abbrev pub invariant-loop-index : goal.invariant-loop-index
invariant-loop-index l = AreSoFar l.source l.pieces l.aliases.list.now l.aliases.own.now l.uses.list.now l.marks l.index l.frames.items l.comments l.end
    l.descriptions.items
