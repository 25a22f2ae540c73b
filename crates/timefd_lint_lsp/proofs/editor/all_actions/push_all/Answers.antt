use Rattle.std.proofs.Common.{rules, arith}
use Rattle.timefd_lint_lsp.proofs.EditorLemmas.EachLemmas.{one_more}
use Rattle.timefd_lint_lsp.specs.Editor.Actions.{AreActionsIn}
use Rattle.timefd_lint_lsp.proofs.editor.all_actions.push_all.Goals as goal

pub loop-description-preserved : goal.loop-description-preserved
loop-description-preserved c = record {
  counted = c.in_ok-counter.ensures.counted;
  reported = one_more (AreActionsIn c.args.wanted c.args.text.now c.args.bytes.0 c.args.bytes.1) c.args.descriptions.now
      c.loop-description.description-index c.description-item.result c.description-item.result
      c.args.actions.now.items c.loop-description.actions.items c.push_in.new.actions.items
      (first_of (search rules, omega (arith, c.loop-description-test.true)))
      c.description-item.is c.loop-description.invariant.reported c.in_ok-counter.ensures.offered;
}
