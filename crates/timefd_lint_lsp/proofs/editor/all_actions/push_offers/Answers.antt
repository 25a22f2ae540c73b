use Rattle.timefd_lint_lsp.proofs.EditorLemmas.ActionLemmas.{mends_and_rewrites}
use Rattle.timefd_lint_lsp.proofs.editor.all_actions.push_offers.Goals as goal

pub returns : goal.returns
returns c =
    mends_and_rewrites c.args.wanted c.args.spot.text.now c.args.spot.description.now c.args.actions.now.items
    c.push_mends_if.new.actions.items c.push_rewrite_if.new.actions.items
    c.in_ok-push_mends_if.ensures c.in_ok-push_rewrite_if.ensures
