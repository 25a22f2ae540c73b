use Rattle.std.proofs.Common.{◌≡◌, length}
use Rattle.std.specs.Prelude.{map}
use Rattle.timefd_lint_scan.specs.DocTests.{test_of, tests_in}
use Rattle.timefd_lint_scan.proofs.DocTestLemmas.{read_on}
use Rattle.timefd_lint_scan.proofs.doc_tests.doc_tests_of.Given as goal

abbrev pub invariant-comments : goal.invariant-comments
invariant-comments l = read_on l.source l.before l.rest (map test_of l.tests.items) ≡ tests_in l.source l.comments

abbrev pub decreases-comments : goal.decreases-comments
decreases-comments l = length l.rest
