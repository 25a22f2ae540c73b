use Rattle.std.proofs.Common.{◌∙◌}
use Rattle.timefd_lint_lsp.proofs.EditorLemmas.ActionLemmas.{other_text}
use Rattle.timefd_lint_lsp.proofs.editor.all_actions.push_becoming.Goals as goal

pub returns-in_ok-push_action-in-Ok : goal.returns-in_ok-push_action-in-Ok
returns-in_ok-push_action-in-Ok c =
    other_text c.args.change c.args.spot.text.now c.args.spot.description.now c.args.rewritten.now c.in-Some.body
    c.in-Ok.text.now c.args.actions.now.items c.push_action-in-Ok.new.actions.items c.in-Some.is
    (c.in-Ok.ensures.cases.0 ∙ c.deref.ensures.value) c.in_ok-push_action-in-Ok.ensures
