use Rattle.timefd_format.proofs.RecordTakenLemmas.{batch_more, next_ends, next_fails, next_more, record_read}
use Rattle.timefd_format.proofs.RunLemmas.{both_read, failed_after}
use Rattle.timefd_format.proofs.TableReportLemmas.{all_reported, batch_more as batch_reported, record_more as record_reported, some_reported}
use Rattle.timefd_format.proofs.table.write_records.Goals as goal

pub returns-in-End-clause-runs : goal.returns-in-End-clause-runs
returns-in-End-clause-runs g c =
    next_ends c.args.otherwise c.args.source.now c.args.description.now c.args.count
    (g.R.BufferedSource.remaining c.args.reader.now) (g.R.BufferedSource.remaining c.records.reader)
    (g.R.BufferedSource.remaining c.write_next_records.new.reader) (g.W.Sink.contents c.args.output.now)
    (g.W.Sink.contents c.records.output) (g.W.Sink.contents c.write_next_records.new.output) c.records.tally
    c.in_ok-record_count.field-0 c.in-End.is c.records.invariant.written c.in_ok-record_count.ensures.next

pub returns-in-Failed-clause-runs : goal.returns-in-Failed-clause-runs
returns-in-Failed-clause-runs g c =
    next_fails c.args.otherwise c.args.source.now c.args.description.now c.args.count
    (g.R.BufferedSource.remaining c.args.reader.now) (g.R.BufferedSource.remaining c.records.reader)
    (g.R.BufferedSource.remaining c.write_next_records.new.reader) (g.W.Sink.contents c.args.output.now)
    (g.W.Sink.contents c.records.output) (g.W.Sink.contents c.write_next_records.new.output) c.records.tally
    c.at_end.result c.and.result c.in_ok-record_count.field-0 c.in-Failed.is c.records.invariant.written
    c.in_ok-record_count.ensures.next c.at_end.ensures c.and.ensures

pub records-preserved-in-Batch : goal.records-preserved-in-Batch
records-preserved-in-Batch g c = record {
  written =
      batch_more c.args.otherwise c.args.source.now c.args.description.now c.args.count
      (g.R.BufferedSource.remaining c.args.reader.now) (g.R.BufferedSource.remaining c.records.reader)
      (g.R.BufferedSource.remaining c.write_next_records.new.reader) (g.W.Sink.contents c.args.output.now)
      (g.W.Sink.contents c.records.output) (g.W.Sink.contents c.write_next_records.new.output) c.records.tally
      c.in-Batch.record_count c.in_ok-record_count.field-0 c.in-Batch.is c.records.invariant.written
      c.in_ok-record_count.ensures.next;
  read = c.records.invariant.read;
  reported =
      batch_reported c.args.source.now c.args.description.now c.args.count c.args.first_line c.records.line
      c.saturating_add-line.result (g.R.BufferedSource.remaining c.args.reader.now) (g.R.BufferedSource.remaining c.records.reader)
      (g.R.BufferedSource.remaining c.write_next_records.new.reader) (g.E.Sink.contents c.args.errors.now)
      (g.E.Sink.contents c.records.errors) (g.E.Sink.contents c.write_next_records.new.errors)
      (g.E.Sink.has_failed c.args.errors.now) (g.E.Sink.has_failed c.records.errors)
      (g.E.Sink.has_failed c.write_next_records.new.errors)
      c.in-Batch.record_count c.in_ok-record_count.field-0 c.in-Batch.is c.records.invariant.reported
      c.in_ok-record_count.ensures.reports c.saturating_add-line.ensures;
}

pub records-preserved : goal.records-preserved
records-preserved g c = record {
  written =
      next_more c.args.otherwise c.args.source.now c.args.description.now c.args.count c.in-Record.lines
      (g.R.BufferedSource.remaining c.args.reader.now) (g.R.BufferedSource.remaining c.records.reader)
      (g.R.BufferedSource.remaining c.write_next_records.new.reader) (g.W.Sink.contents c.args.output.now)
      (g.W.Sink.contents c.records.output) (g.W.Sink.contents c.write_next_records.new.output) c.records.tally
      c.in-Record.one c.and-tally.result c.in_ok-record_count.field-0 c.in-Record.is c.records.invariant.written
      c.in_ok-record_count.ensures.next c.and-tally.ensures;
  read =
      both_read c.records.tally c.in-Record.one c.and-tally.result c.and-tally.ensures c.records.invariant.read
      (record_read (g.R.BufferedSource.calls_left c.records.reader)
      (g.R.BufferedSource.calls_left c.write_next_records.new.reader) c.in-Record.lines
      (g.R.BufferedSource.has_failed c.write_next_records.new.reader) c.in-Record.one c.in_ok-record_count.field-0
      c.in-Record.is c.in_ok-record_count.ensures.source);
  reported =
      record_reported c.args.source.now c.args.description.now c.args.count c.args.first_line c.records.line
      c.saturating_add-line-in-Record.result c.in-Record.lines
      (g.R.BufferedSource.remaining c.args.reader.now) (g.R.BufferedSource.remaining c.records.reader)
      (g.R.BufferedSource.remaining c.write_next_records.new.reader) (g.E.Sink.contents c.args.errors.now)
      (g.E.Sink.contents c.records.errors) (g.E.Sink.contents c.write_next_records.new.errors)
      (g.E.Sink.has_failed c.args.errors.now) (g.E.Sink.has_failed c.records.errors)
      (g.E.Sink.has_failed c.write_next_records.new.errors)
      c.in-Record.one c.in_ok-record_count.field-0 c.in-Record.is c.records.invariant.reported
      c.in_ok-record_count.ensures.reports c.saturating_add-line-in-Record.ensures;
}

pub returns-in-End-clause-reports : goal.returns-in-End-clause-reports
returns-in-End-clause-reports g c =
    all_reported c.args.source.now c.args.description.now c.args.count c.args.first_line c.records.line
    (g.R.BufferedSource.remaining c.args.reader.now) (g.R.BufferedSource.remaining c.records.reader)
    (g.R.BufferedSource.remaining c.write_next_records.new.reader) (g.E.Sink.contents c.args.errors.now)
    (g.E.Sink.contents c.records.errors) (g.E.Sink.contents c.write_next_records.new.errors)
    (g.E.Sink.has_failed c.args.errors.now) (g.E.Sink.has_failed c.records.errors)
    (g.E.Sink.has_failed c.write_next_records.new.errors)
    c.records.tally.has_failed c.in_ok-record_count.field-0 c.in-End.is c.records.invariant.reported
    c.in_ok-record_count.ensures.reports c.records.invariant.read

pub returns-in-Failed-clause-reports : goal.returns-in-Failed-clause-reports
returns-in-Failed-clause-reports g c =
    some_reported c.args.source.now c.args.description.now c.args.count c.args.first_line c.records.line
    (g.R.BufferedSource.remaining c.args.reader.now) (g.R.BufferedSource.remaining c.records.reader)
    (g.R.BufferedSource.remaining c.write_next_records.new.reader) (g.E.Sink.contents c.args.errors.now)
    (g.E.Sink.contents c.records.errors) (g.E.Sink.contents c.write_next_records.new.errors)
    (g.E.Sink.has_failed c.args.errors.now) (g.E.Sink.has_failed c.records.errors)
    (g.E.Sink.has_failed c.write_next_records.new.errors)
    c.and.result.has_failed c.in_ok-record_count.field-0 c.in-Failed.is c.records.invariant.reported
    c.in_ok-record_count.ensures.reports
    (failed_after c.records.tally c.at_end.result c.and.result c.at_end.ensures c.and.ensures)
