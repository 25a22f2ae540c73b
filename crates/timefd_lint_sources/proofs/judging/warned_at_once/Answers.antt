use Rattle.timefd_lint_sources.proofs.JudgementLemmas.{accepted_at_once}
use Rattle.timefd_lint_sources.proofs.judging.warned_at_once.Goals as goal

pub returns-in-Some : goal.returns-in-Some
returns-in-Some c =
    accepted_at_once c.args.language c.args.levels c.in-Some.levels c.args.text.now c.found_at_once.result c.in-Some.is
    c.found_at_once.ensures.accepted
