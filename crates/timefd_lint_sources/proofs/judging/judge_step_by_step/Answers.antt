use Rattle.std.proofs.Common.{refl}
use Rattle.timefd_lint_sources.proofs.JudgementLemmas.{are_faults}
use Rattle.timefd_lint_sources.proofs.judging.judge_step_by_step.Goals as goal

pub returns-in_ok-faults-in-Some : goal.returns-in_ok-faults-in-Some
returns-in_ok-faults-in-Some c =
    are_faults c.args.language c.args.items c.args.levels c.args.text.now c.in_ok-diagnose.field-0
    c.in-Some.first c.in_ok-faults-in-Some.faults c.in-Some.is c.in_ok-diagnose.ensures.refused
    c.in_ok-diagnose.ensures.diagnosis c.in_ok-faults-in-Some.ensures

pub returns-in_ok-found-in-None : goal.returns-in_ok-found-in-None
returns-in_ok-found-in-None c =
    let k = c.in_ok-diagnose.ensures.accepted c.in-None.is in
    (refl, (k.0, k.1, c.in_ok-found-in-None.ensures k.0 k.1))
