use Rattle.std.proofs.Common.{ap, ◌∙◌}
use Rattle.std.proofs.lemmas.Result.{IfOk-weaker}
use Rattle.timefd_parse.specs.Tree.{Text}
use Rattle.timefd_lint.specs.Manual.Reasons.{said_by}
use Rattle.timefd_lint.proofs.manual.reason.said_by_call.Goals as goal

pub returns : goal.returns
returns c =
    IfOk-weaker c.format.result _ _ (λ text is. is ∙ ap (said_by c.args.name.now) c.in_ok-call.ensures)
    c.format.ensures.ok
