use Rattle.timefd_format.proofs.LineReportLemmas.{word_reported}
use Rattle.timefd_format.proofs.entry.tally_one.Goals as goal

pub returns-clause-reports : goal.returns-clause-reports
returns-clause-reports g c =
    word_reported c.args.otherwise c.args.source.now c.args.description.now c.args.entry.frame c.args.entry.line
    c.args.entry.text.now (g.W.Sink.contents c.args.output.now) (g.W.Sink.contents c.write_one.new.output)
    (g.E.Sink.contents c.args.errors.now) (g.E.Sink.contents c.write_one.new.errors)
    (g.E.Sink.has_failed c.args.errors.now) (g.E.Sink.has_failed c.write_one.new.errors) c.in_ok-outcome.outcome
    c.in_ok-outcome.ensures.one c.in_ok-outcome.ensures.reports
