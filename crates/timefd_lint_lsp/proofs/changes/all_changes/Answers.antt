use Rattle.std.proofs.Common.{rules, arith}
use Rattle.timefd_lint_lsp.proofs.ChangeLemmas.{at_last, one_more}
use Rattle.timefd_lint_lsp.proofs.changes.all_changes.Goals as goal

pub loop-value-preserved : goal.loop-value-preserved
loop-value-preserved c =
    one_more c.args.values.now c.loop-value.value-index c.value-item.result c.value-item.result
    c.in_ok-change_of.field-0 c.loop-value.changes.items c.push.new.self.items
    (first_of (search rules, omega (arith, c.loop-value-test.true)))
    c.value-item.is c.in_ok-change_of.ensures c.in_ok-push.ensures.items c.loop-value.invariant

pub returns : goal.returns
returns c =
    at_last c.args.values.now c.loop-value.value-index c.loop-value.changes.items
    (first_of (search rules, omega (arith, c.loop-value-test.false))) c.loop-value.invariant
