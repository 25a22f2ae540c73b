use Rattle.timefd_format.proofs.LineReportLemmas.{moment_reported, not_text_reported}
use Rattle.timefd_format.proofs.entry.write_one.Goals as goal

pub returns-in_default-clause-reports : goal.returns-in_default-clause-reports
returns-in_default-clause-reports g c =
    not_text_reported c.args.source.now c.args.entry.line c.args.entry.text.now c.as_bytes.result.now
    (g.E.Sink.contents c.args.errors.now) (g.E.Sink.contents c.report.new.errors)
    (g.E.Sink.has_failed c.args.errors.now) (g.E.Sink.has_failed c.report.new.errors) c.as_bytes.ensures.value
    c.in_ok-report.ensures.gets

pub returns-in-Ok-moment_in-clause-reports : goal.returns-in-Ok-moment_in-clause-reports
returns-in-Ok-moment_in-clause-reports g c =
    moment_reported c.args.source.now c.args.entry.line c.args.entry.text.now c.in-Ok.text.now
    (g.E.Sink.contents c.args.errors.now) (g.E.Sink.contents c.write_moment.new.errors)
    (g.E.Sink.has_failed c.args.errors.now) (g.E.Sink.has_failed c.write_moment.new.errors) c.write_moment.result
    c.in-Ok.ensures.cases.0 c.write_moment.ensures.reports
