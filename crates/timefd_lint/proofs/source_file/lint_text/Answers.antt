use Rattle.timefd_lint.proofs.SourcesLemmas.{reported_source}
use Rattle.timefd_lint.proofs.source_file.lint_text.Goals as goal

pub returns-clause-reported : goal.returns-clause-reported
returns-clause-reported g c =
    reported_source c.args.options.reporting c.args.source c.in_ok-report.report
    (g.W.Sink.contents c.args.writer.now) (g.W.Sink.contents c.write.new.writer)
    c.deref.result.now c.deref-2.result.now c.tally_of.result c.requires.allowed c.in_ok-report.ensures
    c.deref.ensures.value c.in_ok-write.ensures.written c.deref-2.ensures.value c.tally_of.ensures
