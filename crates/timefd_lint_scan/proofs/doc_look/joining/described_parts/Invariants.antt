use Rattle.timefd_lint_scan.proofs.JoinLemmas.{AreSoFar}
use Rattle.timefd_lint_scan.proofs.doc_look.joining.described_parts.Given as goal

abbrev pub invariant-loop-part : goal.invariant-loop-part
invariant-loop-part l = AreSoFar l.source l.yielded l.end l.descriptions.items
