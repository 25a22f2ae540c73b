use Rattle.std.proofs.Common.{◌∙◌}
use Rattle.std.proofs.lemmas.Result.{IfOk-weaker}
use Rattle.timefd_lint_drawing.specs.Findings.{located_of}
use Rattle.timefd_lint_drawing.proofs.DrawLemmas.{drawn_fault}
use Rattle.timefd_lint_drawing.proofs.draw.drawn_as.Goals as goal

pub returns-clause-exact : goal.returns-clause-exact
returns-clause-exact c =
    IfOk-weaker c.drawn_at.result _ _
    (λ message is. drawn_fault c.args.kind c.args.style c.args.origin c.args.text.now c.args.diagnostic.now
    (located_of c.in_ok-location.location) c.in_ok-end.ensures c.in_ok-location.ensures
    c.code_of.ensures.code (c.deref.ensures ∙ c.in_ok-message.ensures) (c.deref-2.ensures ∙ c.in_ok-help.ensures)
    c.nearest.ensures is)
    c.drawn_at.ensures.exact
