use Rattle.timefd_lint_lsp.proofs.EditorLemmas.LeftLemmas.{adds_left}
use Rattle.timefd_lint_lsp.proofs.editor.all_findings.push_left.Goals as goal

pub returns : goal.returns
returns c =
    adds_left c.args.levels c.args.source c.args.spot.description.now c.args.spot.text.now c.new-all.result.items
    c.push_on.new.found.items c.args.found.now.items c.push_unallowed.new.found.items c.push_unallowed.result
    c.requires.text c.new-all.ensures.items c.in_ok-push_on.ensures c.push_unallowed.ensures
