use Rattle.std.proofs.Common.{ap, ◌∙◌}
use Rattle.std.specs.Prelude.{Some}
use Rattle.timefd_lint_lsp.proofs.EditorLemmas.HoverLemmas.{at_first, parts_of}
use Rattle.timefd_lint_lsp.specs.Editor.Hovers.{first_at}
use Rattle.timefd_lint_lsp.proofs.editor.hovering.hover.Goals as goal

pub returns-in-Some-clause-part : goal.returns-in-Some-clause-part
returns-in-Some-clause-part c =
    parts_of c.args.source c.args.index c.hover_on.result
    (at_first c.args.source c.in_ok-descriptions.descriptions.items c.args.index (Some c.in-Some.description.now)
    c.hover_on.result c.in_ok-descriptions.ensures.all c.in_ok-descriptions.ensures.stand c.in_ok-descriptions.ensures.in_order
    (c.in-Some.ensures ∙ ap (λ l. first_at l c.args.index) c.deref.ensures.value) c.hover_on.ensures)
