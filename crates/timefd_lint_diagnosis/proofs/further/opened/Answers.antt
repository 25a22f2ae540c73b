use Rattle.std.proofs.Common.{◌∙◌, ap, sym}
use Rattle.timefd_lint_diagnosis.specs.Further.{sides_of}
use Rattle.timefd_lint_diagnosis.proofs.FurtherLemmas.{nothing_opens, opens_before}
use Rattle.timefd_lint_diagnosis.proofs.further.opened.Goals as goal

pub returns-in_err-at : goal.returns-in_err-at
returns-in_err-at c =
    ap sides_of c.from_residual.ensures
    ∙ sym (nothing_opens c.args.mark c.args.front.now c.args.rest.now c.requires
    c.in_default.ensures.cases c.in_err-at.ensures.cases)

pub returns : goal.returns
returns c =
    sym (opens_before c.args.mark c.args.front.now c.args.rest.now c.split_at.result.0.now c.in_ok-at.at
    c.requires c.in_default.ensures.cases c.in_ok-at.ensures.cases c.split_at.ensures.front)
