use Rattle.std.proofs.Common.{arith, rules}
use Rattle.timefd_lint_lsp.specs.Changes as spec
use Rattle.timefd_lint_lsp.proofs.ChangeLemmas.{all_made, none_made, one_made}
use Rattle.timefd_lint_lsp.proofs.changes.after_all.Goals as goal

pub loop-change-preserved : goal.loop-change-preserved
loop-change-preserved c =
    one_made c.args.changes.now c.loop-change.change-index c.change-item.result c.change-item.result
    c.loop-change.current c.in-Some.next c.in_ok-next.field-0 c.deref.result.now
    (spec.after_all c.args.text.now c.args.changes.now)
    (first_of (search rules, omega (arith, c.loop-change-test.true))) c.change-item.is c.deref.ensures c.in-Some.is
    c.in_ok-next.ensures c.loop-change.invariant

pub returns-in-None : goal.returns-in-None
returns-in-None c =
    none_made c.args.changes.now c.loop-change.change-index c.change-item.result c.change-item.result
    c.loop-change.current c.in_ok-next.field-0 c.deref.result.now
    (spec.after_all c.args.text.now c.args.changes.now)
    (first_of (search rules, omega (arith, c.loop-change-test.true))) c.change-item.is c.deref.ensures c.in-None.is
    c.in_ok-next.ensures c.loop-change.invariant

pub returns : goal.returns
returns c =
    all_made c.args.changes.now c.loop-change.change-index c.loop-change.current
    (spec.after_all c.args.text.now c.args.changes.now)
    (first_of (search rules, omega (arith, c.loop-change-test.false))) c.loop-change.invariant
