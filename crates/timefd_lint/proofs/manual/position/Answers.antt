use Rattle.std.proofs.Common.{string_bytes}
use Rattle.std.proofs.lemmas.Result.{IfOk-weaker}
use Rattle.timefd_lint.proofs.ManualLemmas.{placed_at}
use Rattle.timefd_lint.proofs.manual.position.Goals as goal

pub returns : goal.returns
returns c =
    IfOk-weaker c.place.result _ _
    (λ text. placed_at c.args.name.now c.args.source.now c.args.description.now c.deref.result.now
    (string_bytes c.in_ok-file.file) c.in_ok-at.at.line c.in_ok-at.at.column c.deref.ensures
    c.in_ok-file.ensures c.in_ok-at.ensures.line c.in_ok-at.ensures.column (string_bytes text)) c.place.ensures
