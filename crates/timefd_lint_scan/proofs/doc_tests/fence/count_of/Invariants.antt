use Rattle.std.proofs.Common.{◌≡◌, ◌+◌, length}
use Rattle.timefd_lint_scan.specs.DocTests.{count_of}
use Rattle.timefd_lint_scan.proofs.doc_tests.fence.count_of.Given as goal

abbrev pub invariant-bytes : goal.invariant-bytes
invariant-bytes l = record {
  count : l.count + count_of l.sign l.rest ≡ count_of l.sign l.text;
  within : l.count + length l.rest ≡ length l.text;
}

abbrev pub decreases-bytes : goal.decreases-bytes
decreases-bytes l = length l.rest
