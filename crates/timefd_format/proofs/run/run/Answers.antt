use Rattle.timefd_lint_diagnosis.specs.Words.{texts}
use Rattle.timefd_format.proofs.RunReportLemmas.{run_reported}
use Rattle.timefd_format.proofs.run.run.Goals as goal

pub returns-in-Some-clause-reports : goal.returns-in-Some-clause-reports
returns-in-Some-clause-reports g c =
    run_reported c.args.column c.args.clocks c.in-Some.source c.args.manner.is_colored c.args.languages c.args.read
    c.args.description (texts c.args.words.now) (g.I.BufferedSource.remaining c.args.input.now)
    (g.E.Sink.contents c.args.errors.now) (g.E.Sink.contents c.source_of.new.errors)
    (g.E.Sink.contents c.run_from.new.errors) (g.E.Sink.has_failed c.args.errors.now)
    (g.E.Sink.has_failed c.source_of.new.errors) (g.E.Sink.has_failed c.run_from.new.errors) c.in_ok-source.field-0
    c.run_from.result c.in-Some.is c.in_ok-source.ensures.source c.in_ok-source.ensures.reports
    c.run_from.ensures.reports
