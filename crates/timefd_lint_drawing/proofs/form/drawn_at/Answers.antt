use Rattle.std.proofs.lemmas.Result.{IfOk-weaker}
use Rattle.timefd_lint_drawing.specs.Findings.{located_of, said_of}
use Rattle.timefd_lint_drawing.proofs.FormLemmas.{never_empty}
use Rattle.timefd_lint_drawing.proofs.form.drawn_at.Goals as goal

pub returns-clause-some : goal.returns-clause-some
returns-clause-some c =
    IfOk-weaker c.written.result _ _
    (λ message is. never_empty c.args.style (located_of c.args.location) (said_of c.args.finding) message.items is)
    c.written.ensures
