use Rattle.timefd_lint_lsp.proofs.EditorLemmas.FindingLemmas.{by_warnings}
use Rattle.timefd_lint_lsp.proofs.editor.all_findings.push_judgement.Goals as goal

pub returns-in-Accepted : goal.returns-in-Accepted
returns-in-Accepted c =
    by_warnings c.args.spot.text.now c.args.spot.description.now c.args.judgement.now c.in-Accepted.field-0
    c.in-Accepted.warned c.levels_of.result c.args.found.now.items c.push_warnings.new.found.items
    c.push_warnings.result c.in-Accepted.is c.levels_of.ensures c.push_warnings.ensures
