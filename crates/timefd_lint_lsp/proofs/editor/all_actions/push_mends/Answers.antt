use Rattle.timefd_lint_lsp.proofs.EditorLemmas.ActionLemmas.{by_guesses}
use Rattle.timefd_lint_lsp.proofs.editor.all_actions.push_mends.Goals as goal

pub returns : goal.returns
returns c =
    by_guesses c.args.spot.text.now c.args.spot.description.now c.args.actions.now.items
    c.push_offer.new.actions.items c.push_offer-2.new.actions.items c.in_ok-push_offer.field-0
    c.in_ok-push_offer-2.field-0 c.if-branch.false c.in_ok-push_offer.ensures c.in_ok-push_offer-2.ensures
