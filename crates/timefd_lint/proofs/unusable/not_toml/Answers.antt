use Rattle.std.proofs.lemmas.Result.{IfOk-weaker}
use Rattle.timefd_lint.proofs.unusable.not_toml.Goals as goal

pub returns : goal.returns
returns c =
    IfOk-weaker c.format.result _ _
    (λ sentence said. (c.line_at-line.result, c.message-reason.result.now, c.line_at-line.ensures, said)) c.format.ensures.ok
