use Rattle.timefd_lint.proofs.ReportedLemmas.{failed_run}
use Rattle.timefd_lint.proofs.run.note_unopened.Goals as goal

pub returns-in_ok-end-in-Failed-clause-reported : goal.returns-in_ok-end-in-Failed-clause-reported
returns-in_ok-end-in-Failed-clause-reported g c =
    failed_run c.args.options.is_whole c.args.options.language c.args.options.comment
    c.args.options.reporting c.args.name
    (g.W.Sink.contents c.args.writer.now) (g.W.Sink.contents c.failed.new.writer)
    c.in_ok-end-in-Failed.end c.of.result _ c.in_ok-end-in-Failed.ensures.end
    c.in_ok-end-in-Failed.ensures.noted c.of.ensures
