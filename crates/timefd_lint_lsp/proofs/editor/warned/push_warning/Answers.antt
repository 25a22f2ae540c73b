use Rattle.timefd_lint_lsp.proofs.EditorLemmas.WarningLemmas.{by_level}
use Rattle.timefd_lint_lsp.proofs.editor.warned.push_warning.Goals as goal

pub returns : goal.returns
returns c =
    by_level c.args.spot.text.now c.args.spot.description.now c.args.warned c.args.warning c.level_of.result
    c.args.found.now.items c.push_at_level.new.found.items c.push_at_level.result
    c.level_of.ensures c.push_at_level.ensures
