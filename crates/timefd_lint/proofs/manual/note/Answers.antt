use Rattle.std.proofs.Common.{ap, ◌∙◌}
use Rattle.std.proofs.lemmas.Result.{IfOk-weaker}
use Rattle.timefd_lint.specs.Manual.{noted}
use Rattle.timefd_lint.proofs.manual.note.Goals as goal

pub returns : goal.returns
returns c =
    IfOk-weaker c.format.result _ _
    (λ text is. is ∙ ap (λ position. noted position c.args.why.now) c.in_ok-position.ensures) c.format.ensures.ok
