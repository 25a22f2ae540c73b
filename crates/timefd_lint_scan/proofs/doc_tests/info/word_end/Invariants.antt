use Rattle.std.proofs.Common.{◌≡◌, ◌+◌, length}
use Rattle.timefd_lint_scan.specs.DocTests.{word_end}
use Rattle.timefd_lint_scan.proofs.doc_tests.info.word_end.Given as goal

abbrev pub invariant-bytes : goal.invariant-bytes
invariant-bytes l = record {
  end : l.end + word_end l.rest ≡ word_end l.text;
  within : l.end + length l.rest ≡ length l.text;
}

abbrev pub decreases-bytes : goal.decreases-bytes
decreases-bytes l = length l.rest
