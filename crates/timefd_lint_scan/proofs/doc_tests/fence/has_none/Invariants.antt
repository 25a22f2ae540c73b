use Rattle.std.proofs.Common.{◌≡◌, length}
use Rattle.timefd_lint_scan.specs.DocTests.{has_none}
use Rattle.timefd_lint_scan.proofs.doc_tests.fence.has_none.Given as goal

abbrev pub invariant-bytes : goal.invariant-bytes
invariant-bytes l = has_none l.sign l.rest ≡ has_none l.sign l.text

abbrev pub decreases-bytes : goal.decreases-bytes
decreases-bytes l = length l.rest
