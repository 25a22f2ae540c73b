use Rattle.std.proofs.Common.{ap, ◌∙◌}
use Rattle.std.proofs.lemmas.Result.{IfOk-weaker}
use Rattle.timefd_lint.specs.Limited.{from_year, noted}
use Rattle.timefd_lint.proofs.limited.note.Goals as goal

pub returns : goal.returns
returns c =
    IfOk-weaker c.format.result _ _
    (λ text is. is
    ∙ ap (λ year. noted c.args.file.now c.args.number year c.offsets-offsets.result.now) c.in_ok-year.ensures
    ∙ ap (noted c.args.file.now c.args.number (from_year c.args.limits.first_year)) c.offsets-offsets.ensures)
    c.format.ensures.ok
