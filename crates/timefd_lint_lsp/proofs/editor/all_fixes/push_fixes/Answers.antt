use Rattle.std.proofs.Common.{rules, arith}
use Rattle.timefd_lint_lsp.proofs.EditorLemmas.EachLemmas.{one_more}
use Rattle.timefd_lint_lsp.specs.Editor.AllFixes.{AreFixes}
use Rattle.timefd_lint_lsp.proofs.editor.all_fixes.push_fixes.Goals as goal

pub loop-description-preserved : goal.loop-description-preserved
loop-description-preserved c = record {
  counted = c.in_ok-counter.ensures.counted;
  reported = one_more (AreFixes c.args.text.now) c.args.descriptions.now
      c.loop-description.description-index c.description-item.result c.description-item.result
      c.args.edits.now.items c.loop-description.edits.items c.push_counted.new.edits.items
      (first_of (search rules, omega (arith, c.loop-description-test.true)))
      c.description-item.is c.loop-description.invariant.reported c.in_ok-counter.ensures.fixed;
}
