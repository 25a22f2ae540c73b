use Rattle.std.proofs.Common.{rules, arith}
use Rattle.timefd_lint_lsp.proofs.EditorLemmas.EachLemmas.{one_more_at}
use Rattle.timefd_lint_lsp.specs.Editor.Remarked.{IsRemarked}
use Rattle.timefd_lint_lsp.proofs.editor.remarked.push_remarks.Goals as goal

pub loop-remark-preserved : goal.loop-remark-preserved
loop-remark-preserved c = record {
  counted = c.counted-counter.ensures.counted;
  reported = one_more_at (IsRemarked c.args.text.now) c.args.remarks.now c.loop-remark.remark-index _
      c.args.found.now.items c.loop-remark.found.items c.push_remark.new.found.items
      (first_of (search rules, omega (arith, c.loop-remark-test.true)))
      c.loop-remark.invariant.reported c.in_ok-push_remark.ensures;
}
