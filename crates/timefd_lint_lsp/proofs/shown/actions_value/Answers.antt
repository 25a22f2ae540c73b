use Rattle.std.proofs.Common.{◌∙◌, rules, arith}
use Rattle.serde_json.proofs.Views.{view-Array}
use Rattle.timefd_lint_lsp.specs.Shown as spec
use Rattle.timefd_lint_lsp.proofs.ShownLemmas.{at_last, one_more}
use Rattle.timefd_lint_lsp.proofs.shown.actions_value.Goals as goal

pub loop-action-preserved : goal.loop-action-preserved
loop-action-preserved c =
    one_more (spec.action_data c.args.uri.now) c.args.actions.now c.loop-action.action-index c.action-item.result c.action-item.result
    c.in_ok-action_value.field-0 c.loop-action.values.items c.push.new.self.items
    (first_of (search rules, omega (arith, c.loop-action-test.true)))
    c.action-item.is c.in_ok-action_value.ensures c.in_ok-push.ensures.items c.loop-action.invariant

pub returns : goal.returns
returns c =
    view-Array c.loop-action.values
    ∙ at_last (spec.action_data c.args.uri.now) c.args.actions.now c.loop-action.action-index c.loop-action.values.items
    (first_of (search rules, omega (arith, c.loop-action-test.false))) c.loop-action.invariant
