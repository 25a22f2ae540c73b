use Rattle.timefd_lint_sources.proofs.ReportLemmas.{at_last}
use Rattle.timefd_lint_sources.proofs.source.report_all.Goals as goal

pub returns : goal.returns
returns c =
    at_last c.args.reporting c.args.source c.args.descriptions.now c.loop-description.description-index
    c.loop-description.ends.items c.loop-description.message.items c.loop-description-test.false
    c.loop-description.invariant.reported
