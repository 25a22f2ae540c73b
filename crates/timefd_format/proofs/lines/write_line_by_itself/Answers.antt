use Rattle.std.proofs.Common.{ap, ◌∙◌}
use Rattle.timefd_lint_rewrite.specs.Lines.{without_newline}
use Rattle.timefd_format.proofs.LineReportLemmas.{line_reported}
use Rattle.timefd_format.proofs.TakenLemmas.{line_looked}
use Rattle.timefd_format.proofs.lines.write_line_by_itself.Goals as goal

pub returns-in_ok-one-in-Line-clause-next : goal.returns-in_ok-one-in-Line-clause-next
returns-in_ok-one-in-Line-clause-next g c =
    line_looked c.args.otherwise c.args.source.now c.args.description.now (g.R.BufferedSource.remaining c.args.reader.now)
    (g.R.BufferedSource.remaining c.read_line.new.reader) (g.W.Sink.contents c.args.output.now)
    (g.W.Sink.contents c.tally_one.new.output) c.read_line.new.bytes.items c.without_newline.result.now
    c.in_ok-one-in-Line.one c.in_ok-read_line.field-0 c.in-Line.is c.in_ok-read_line.ensures.read
    (c.without_newline.ensures ∙ ap without_newline c.as_slice.ensures.value)
    c.in_ok-one-in-Line.ensures.one

pub returns-in_ok-one-in-Line-clause-reports : goal.returns-in_ok-one-in-Line-clause-reports
returns-in_ok-one-in-Line-clause-reports g c =
    line_reported c.args.source.now c.args.description.now c.args.line (g.R.BufferedSource.remaining c.args.reader.now)
    (g.R.BufferedSource.remaining c.read_line.new.reader) (g.E.Sink.contents c.args.errors.now)
    (g.E.Sink.contents c.tally_one.new.errors) (g.E.Sink.has_failed c.args.errors.now)
    (g.E.Sink.has_failed c.tally_one.new.errors) c.read_line.new.bytes.items c.without_newline.result.now
    c.in_ok-one-in-Line.one c.in_ok-read_line.field-0 c.in-Line.is c.in_ok-read_line.ensures.read
    (c.without_newline.ensures ∙ ap without_newline c.as_slice.ensures.value)
    c.in_ok-one-in-Line.ensures.reports
