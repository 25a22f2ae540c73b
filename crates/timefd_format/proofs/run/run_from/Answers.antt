use Rattle.timefd_format.proofs.RunLemmas.{ran}
use Rattle.timefd_format.proofs.RunReportLemmas.{ran as reported}
use Rattle.timefd_format.proofs.run.run_from.Goals as goal
use Rattle.timefd_lint_diagnosis.specs.Words.{texts}

pub returns-in_ok-tally-in-Description : goal.returns-in_ok-tally-in-Description
returns-in_ok-tally-in-Description g c = record {
  ends = tt;
  unread = c.in_ok-tally-in-Description.ensures.unread;
  run =
      ran c.args.column c.args.otherwise c.args.source.now c.args.manner.is_quiet c.args.languages c.args.description.now (texts c.args.words.now)
      (g.I.BufferedSource.remaining c.args.input.now) (g.W.Sink.contents c.args.output.now)
      (g.W.Sink.contents c.write_all.new.output) c.in_ok-diagnostic.field-0
      c.in-Description.description c.warned_by-warned.result c.in_ok-tally-in-Description.tally c.in-Description.is
      c.in_ok-diagnostic.ensures c.warned_by-warned.ensures
      c.in_ok-tally-in-Description.ensures.run;
  reports =
      reported c.args.column c.args.source.now c.args.manner.is_colored c.args.languages c.args.read_by c.args.description
      (texts c.args.words.now) (g.I.BufferedSource.remaining c.args.input.now) (g.E.Sink.contents c.args.errors.now)
      (g.E.Sink.contents c.report_warnings.new.errors) (g.E.Sink.contents c.write_all.new.errors)
      (g.E.Sink.has_failed c.args.errors.now) (g.E.Sink.has_failed c.report_warnings.new.errors)
      (g.E.Sink.has_failed c.write_all.new.errors) c.in_ok-diagnostic.field-0 c.in-Description.description
      c.warned_by-warned.result c.in_ok-tally-in-Description.tally c.in-Description.is c.in_ok-diagnostic.ensures
      c.in_ok-report_warnings-in-Description.ensures.gets c.in_ok-tally-in-Description.ensures.reports;
}
