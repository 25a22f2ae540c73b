use Rattle.std.proofs.Common.{rules, arith, true}
use Rattle.timefd_lint_lsp.proofs.EditorLemmas.EachLemmas.{one_more}
use Rattle.timefd_lint_lsp.specs.Editor.Findings.{IsFault}
use Rattle.timefd_lint_lsp.proofs.editor.faults.push_further.Goals as goal

pub loop-diagnostic-preserved : goal.loop-diagnostic-preserved
loop-diagnostic-preserved c =
    one_more (IsFault c.args.spot.text.now c.args.spot.description.now true) c.args.further.now
    c.loop-diagnostic.diagnostic-index c.diagnostic-item.result c.diagnostic-item.result
    c.args.found.now.items c.loop-diagnostic.found.items c.push_fault.new.found.items
    (first_of (search rules, omega (arith, c.loop-diagnostic-test.true)))
    c.diagnostic-item.is c.loop-diagnostic.invariant c.in_ok-push_fault.ensures
