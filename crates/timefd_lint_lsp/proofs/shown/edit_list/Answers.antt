use Rattle.std.proofs.Common.{◌∙◌, rules, arith}
use Rattle.serde_json.proofs.Views.{view-Array}
use Rattle.timefd_lint_lsp.specs.Shown as spec
use Rattle.timefd_lint_lsp.proofs.ShownLemmas.{at_last, one_more}
use Rattle.timefd_lint_lsp.proofs.shown.edit_list.Goals as goal

pub loop-edit-preserved : goal.loop-edit-preserved
loop-edit-preserved c =
    one_more spec.edit_data c.args.edits.now c.loop-edit.edit-index c.edit-item.result c.edit-item.result
    c.in_ok-edit_value.field-0 c.loop-edit.values.items c.push.new.self.items
    (first_of (search rules, omega (arith, c.loop-edit-test.true)))
    c.edit-item.is c.in_ok-edit_value.ensures c.in_ok-push.ensures.items c.loop-edit.invariant

pub returns : goal.returns
returns c =
    view-Array c.loop-edit.values
    ∙ at_last spec.edit_data c.args.edits.now c.loop-edit.edit-index c.loop-edit.values.items
    (first_of (search rules, omega (arith, c.loop-edit-test.false))) c.loop-edit.invariant
