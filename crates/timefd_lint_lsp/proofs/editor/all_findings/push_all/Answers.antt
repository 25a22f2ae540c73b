use Rattle.std.proofs.Common.{rules, arith}
use Rattle.timefd_lint_lsp.proofs.EditorLemmas.EachLemmas.{at_last, one_more}
use Rattle.timefd_lint_lsp.specs.Editor.Findings.{AreLeftOn}
use Rattle.timefd_lint_lsp.proofs.editor.all_findings.push_all.Goals as goal

pub loop-description-preserved : goal.loop-description-preserved
loop-description-preserved c = record {
  counted = c.counted-counter.ensures.counted;
  reported = one_more (AreLeftOn c.args.levels c.args.source) c.args.descriptions.now
      c.loop-description.description-index c.description-item.result c.description-item.result
      c.args.found.now.items c.loop-description.found.items c.push_left.new.found.items
      (first_of (search rules, omega (arith, c.loop-description-test.true)))
      c.description-item.is c.loop-description.invariant.reported c.in_ok-push_left.ensures;
}

pub returns : goal.returns
returns c =
    at_last (AreLeftOn c.args.levels c.args.source) c.args.descriptions.now c.loop-description.description-index
    c.args.found.now.items c.loop-description.found.items
    (first_of (search rules, omega (arith, c.loop-description-test.false))) c.loop-description.invariant.reported
