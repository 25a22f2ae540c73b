use Rattle.std.proofs.Common.{◌∙◌, ap, sym}
use Rattle.timefd_lint_diagnosis.specs.Further.{sides_of}
use Rattle.timefd_lint_diagnosis.proofs.FurtherLemmas.{is_closed, not_closed}
use Rattle.timefd_lint_diagnosis.proofs.further.closed.Goals as goal

pub returns-in_err-after : goal.returns-in_err-after
returns-in_err-after c =
    ap sides_of c.from_residual.ensures
    ∙ sym (not_closed c.args.opened.before.now c.args.opened.after.now c.cut.result.0.now
    c.cut.result.1.now c.cut.ensures.parts c.in_err-after.ensures.cases)

pub returns : goal.returns
returns c =
    sym (is_closed c.args.opened.before.now c.args.opened.after.now c.cut.result.0.now
    c.cut.result.1.now c.in_ok-after.after c.cut.ensures.parts c.in_ok-after.ensures.cases)
