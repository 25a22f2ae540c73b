use Rattle.timefd_format.proofs.LineReportLemmas.{all_reported, batch_more as batch_reported, line_more as line_reported, some_reported}
use Rattle.timefd_format.proofs.RunLemmas.{failed_after, both_read}
use Rattle.timefd_format.proofs.TakenLemmas.{batch_more, line_read, next_ends, next_fails, next_more}
use Rattle.timefd_format.proofs.lines.write_by.Goals as goal

pub returns-in-End-clause-runs : goal.returns-in-End-clause-runs
returns-in-End-clause-runs g c =
    next_ends c.args.otherwise c.args.source.now c.args.description.now (g.R.BufferedSource.remaining c.args.reader.now)
    (g.R.BufferedSource.remaining c.lines.reader) (g.R.BufferedSource.remaining c.write_next.new.reader)
    (g.W.Sink.contents c.args.output.now) (g.W.Sink.contents c.lines.output)
    (g.W.Sink.contents c.write_next.new.output) c.lines.tally c.in_ok-count.field-0 c.in-End.is
    c.lines.invariant.written c.in_ok-count.ensures.next

pub returns-in-Failed-clause-runs : goal.returns-in-Failed-clause-runs
returns-in-Failed-clause-runs g c =
    next_fails c.args.otherwise c.args.source.now c.args.description.now (g.R.BufferedSource.remaining c.args.reader.now)
    (g.R.BufferedSource.remaining c.lines.reader) (g.R.BufferedSource.remaining c.write_next.new.reader)
    (g.W.Sink.contents c.args.output.now) (g.W.Sink.contents c.lines.output)
    (g.W.Sink.contents c.write_next.new.output) c.lines.tally c.at_end.result c.and.result
    c.in_ok-count.field-0 c.in-Failed.is c.lines.invariant.written c.in_ok-count.ensures.next c.at_end.ensures
    c.and.ensures

pub lines-preserved-in-Lines : goal.lines-preserved-in-Lines
lines-preserved-in-Lines g c = record {
  written =
      batch_more c.args.otherwise c.args.source.now c.args.description.now
      (g.R.BufferedSource.remaining c.args.reader.now) (g.R.BufferedSource.remaining c.lines.reader)
      (g.R.BufferedSource.remaining c.write_next.new.reader) (g.W.Sink.contents c.args.output.now)
      (g.W.Sink.contents c.lines.output) (g.W.Sink.contents c.write_next.new.output) c.lines.tally c.in-Lines.count
      c.in_ok-count.field-0 c.in-Lines.is c.lines.invariant.written c.in_ok-count.ensures.next;
  read = c.lines.invariant.read;
  reported =
      batch_reported c.args.source.now c.args.description.now 1 c.lines.line c.saturating_add-line.result
      (g.R.BufferedSource.remaining c.args.reader.now) (g.R.BufferedSource.remaining c.lines.reader)
      (g.R.BufferedSource.remaining c.write_next.new.reader) (g.E.Sink.contents c.args.errors.now)
      (g.E.Sink.contents c.lines.errors) (g.E.Sink.contents c.write_next.new.errors)
      (g.E.Sink.has_failed c.args.errors.now) (g.E.Sink.has_failed c.lines.errors)
      (g.E.Sink.has_failed c.write_next.new.errors)
      c.in-Lines.count c.in_ok-count.field-0 c.in-Lines.is c.lines.invariant.reported c.in_ok-count.ensures.reports
      c.saturating_add-line.ensures;
}

pub lines-preserved : goal.lines-preserved
lines-preserved g c = record {
  written =
      next_more c.args.otherwise c.args.source.now c.args.description.now
      (g.R.BufferedSource.remaining c.args.reader.now) (g.R.BufferedSource.remaining c.lines.reader)
      (g.R.BufferedSource.remaining c.write_next.new.reader) (g.W.Sink.contents c.args.output.now)
      (g.W.Sink.contents c.lines.output) (g.W.Sink.contents c.write_next.new.output) c.lines.tally c.in-Line.one
      c.and-tally.result c.in_ok-count.field-0 c.in-Line.is c.lines.invariant.written c.in_ok-count.ensures.next
      c.and-tally.ensures;
  read =
      both_read c.lines.tally c.in-Line.one c.and-tally.result c.and-tally.ensures c.lines.invariant.read
      (line_read (g.R.BufferedSource.calls_left c.lines.reader)
      (g.R.BufferedSource.calls_left c.write_next.new.reader)
      (g.R.BufferedSource.has_failed c.write_next.new.reader) c.in-Line.one c.in_ok-count.field-0 c.in-Line.is
      c.in_ok-count.ensures.source);
  reported =
      line_reported c.args.source.now c.args.description.now 1 c.lines.line c.saturating_add-line-in-Line.result
      (g.R.BufferedSource.remaining c.args.reader.now) (g.R.BufferedSource.remaining c.lines.reader)
      (g.R.BufferedSource.remaining c.write_next.new.reader) (g.E.Sink.contents c.args.errors.now)
      (g.E.Sink.contents c.lines.errors) (g.E.Sink.contents c.write_next.new.errors)
      (g.E.Sink.has_failed c.args.errors.now) (g.E.Sink.has_failed c.lines.errors)
      (g.E.Sink.has_failed c.write_next.new.errors)
      c.in-Line.one c.in_ok-count.field-0 c.in-Line.is c.lines.invariant.reported c.in_ok-count.ensures.reports
      c.saturating_add-line-in-Line.ensures;
}

pub returns-in-End-clause-reports : goal.returns-in-End-clause-reports
returns-in-End-clause-reports g c =
    all_reported c.args.source.now c.args.description.now c.lines.line
    (g.R.BufferedSource.remaining c.args.reader.now) (g.R.BufferedSource.remaining c.lines.reader)
    (g.R.BufferedSource.remaining c.write_next.new.reader) (g.E.Sink.contents c.args.errors.now)
    (g.E.Sink.contents c.lines.errors) (g.E.Sink.contents c.write_next.new.errors)
    (g.E.Sink.has_failed c.args.errors.now) (g.E.Sink.has_failed c.lines.errors)
    (g.E.Sink.has_failed c.write_next.new.errors)
    c.lines.tally.has_failed c.in_ok-count.field-0 c.in-End.is c.lines.invariant.reported
    c.in_ok-count.ensures.reports c.lines.invariant.read

pub returns-in-Failed-clause-reports : goal.returns-in-Failed-clause-reports
returns-in-Failed-clause-reports g c =
    some_reported c.args.source.now c.args.description.now c.lines.line
    (g.R.BufferedSource.remaining c.args.reader.now) (g.R.BufferedSource.remaining c.lines.reader)
    (g.R.BufferedSource.remaining c.write_next.new.reader) (g.E.Sink.contents c.args.errors.now)
    (g.E.Sink.contents c.lines.errors) (g.E.Sink.contents c.write_next.new.errors)
    (g.E.Sink.has_failed c.args.errors.now) (g.E.Sink.has_failed c.lines.errors)
    (g.E.Sink.has_failed c.write_next.new.errors)
    c.and.result.has_failed c.in_ok-count.field-0 c.in-Failed.is c.lines.invariant.reported
    c.in_ok-count.ensures.reports
    (failed_after c.lines.tally c.at_end.result c.and.result c.at_end.ensures c.and.ensures)
