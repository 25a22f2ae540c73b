use Rattle.timefd_lint_scan.specs.DocLooks.{AreSeenIn}
use Rattle.timefd_lint_scan.proofs.doc_look.example.seen_in.Given as goal

abbrev pub invariant-loop-test : goal.invariant-loop-test
invariant-loop-test l = AreSeenIn l.own l.yielded l.seen.items
