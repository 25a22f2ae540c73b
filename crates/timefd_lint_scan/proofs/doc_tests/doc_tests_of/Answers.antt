use Rattle.std.proofs.Common.{refl, rules}
use Rattle.std.specs.Prelude.{map}
use Rattle.timefd_lint_scan.specs.DocTests.{test_of}
use Rattle.timefd_lint_scan.proofs.DocTestLemmas.{all_read, one_read}
use Rattle.timefd_lint_scan.proofs.doc_tests.doc_tests_of.Goals as goal

pub comments-preserved : goal.comments-preserved
comments-preserved c =
    one_read c.args.source.now c.args.comments.now c.comments.rest.now _ _ _ c.comments.before c.in_ok-before.before
    (map test_of c.comments.tests.items) (map test_of c.with_comment.new.tests.items) (search rules) c.in-len1-up.len_at_least refl
    c.in_ok-before.ensures.before c.in_ok-before.ensures.tests c.comments.invariant

pub returns : goal.returns
returns c =
    all_read c.args.source.now c.args.comments.now c.comments.rest.now c.comments.before (map test_of c.comments.tests.items)
    c.in_default.len_below c.comments.invariant
