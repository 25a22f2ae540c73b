use Rattle.std.proofs.Common.{length}
use Rattle.timefd_lint_scan.proofs.DocTestLemmas.{IsLeft}
use Rattle.timefd_lint_scan.proofs.doc_tests.info.is_rust.Given as goal

abbrev pub invariant-words : goal.invariant-words
invariant-words l = IsLeft l.info l.rest l.language

abbrev pub decreases-words : goal.decreases-words
decreases-words l = length l.rest
