use Rattle.timefd_lint_lsp.proofs.EditorLemmas.HoverLemmas.{refused}
use Rattle.timefd_lint_lsp.proofs.editor.hovering.hover_at.Goals as goal

pub returns-in-Some : goal.returns-in-Some
returns-in-Some c =
    refused c.args.text.now c.args.description.now c.language_of.result c.args.reported.now c.args.index
    c.in_ok-diagnostic.field-0 c.in-Some.diagnostic c.refused.result c.language_of.ensures c.utf8.reported c.in-Some.is
    c.in_ok-diagnostic.ensures.refused c.in_ok-diagnostic.ensures.diagnosis c.refused.ensures
