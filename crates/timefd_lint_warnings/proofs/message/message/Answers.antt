use Rattle.std.proofs.Common.{◌∙◌}
use Rattle.std.proofs.lemmas.Result.{IfOk-weaker}
use Rattle.timefd_lint_drawing.specs.Findings.{located_of}
use Rattle.timefd_lint_warnings.proofs.MessageLemmas.{as_finding}
use Rattle.timefd_lint_warnings.proofs.message.message.Goals as goal

pub returns : goal.returns
returns c =
    IfOk-weaker c.drawn_at.result _ _
    (λ o is. as_finding c.args.style c.args.origin c.args.whole.now c.args.span c.args.text.now c.args.column c.args.level
    c.args.warning (located_of c.in_ok-location.location) c.in_ok-location.ensures c.severity.ensures c.name.ensures
    c.sentence.ensures (c.deref.ensures ∙ c.in_ok-help.ensures) is)
    c.drawn_at.ensures.exact
