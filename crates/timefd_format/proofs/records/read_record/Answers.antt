use Rattle.std.proofs.Common.{rules}
use Rattle.timefd_format.proofs.RecordCountLemmas.{row_counted}
use Rattle.timefd_format.proofs.RecordLemmas.{line_allowed, line_more, piece_of, row_done}
use Rattle.timefd_format.proofs.records.read_record.Goals as goal

pub returns-then-not-is_inside-clause-read : goal.returns-then-not-is_inside-clause-read
returns-then-not-is_inside-clause-read g c =
    row_done (g.R.BufferedSource.remaining c.args.reader.now) (g.R.BufferedSource.remaining c.lines.reader)
    (g.R.BufferedSource.remaining c.read_more.new.reader) c.lines.row.items c.read_more.new.bytes.items _
    c.lines.quoting c.after_all-quoting.result c.in_ok-read_more.field-0 c.lines.count c.lines.invariant.front
    c.in_ok-read_more.ensures.read c.in-Line.is
    (piece_of c.lines.row.items c.read_more.new.bytes.items c.deref.result.now c.len-from.result
    c.deref.ensures.value (search rules))
    c.after_all-quoting.ensures (search rules)

pub lines-preserved : goal.lines-preserved
lines-preserved g c = record {
  front =
      line_more (g.R.BufferedSource.remaining c.args.reader.now) (g.R.BufferedSource.remaining c.lines.reader)
      (g.R.BufferedSource.remaining c.read_more.new.reader) c.lines.row.items c.read_more.new.bytes.items _
      c.lines.quoting c.after_all-quoting.result c.in_ok-read_more.field-0 c.lines.invariant.front
      c.in_ok-read_more.ensures.read c.in-Line.is
      (piece_of c.lines.row.items c.read_more.new.bytes.items c.deref.result.now c.len-from.result
      c.deref.ensures.value (search rules))
      c.after_all-quoting.ensures (search rules);
  counted =
      row_counted (g.R.BufferedSource.remaining c.args.reader.now) (g.R.BufferedSource.remaining c.lines.reader)
      (g.R.BufferedSource.remaining c.read_more.new.reader) c.lines.row.items c.read_more.new.bytes.items
      c.lines.quoting c.lines.count c.saturating_add-count.result c.in_ok-read_more.field-0 c.lines.invariant.front
      c.lines.invariant.counted c.in_ok-read_more.ensures.read c.in-Line.is c.saturating_add-count.ensures;
  calls =
      line_allowed (g.R.BufferedSource.calls_left c.args.reader.now) (g.R.BufferedSource.calls_left c.lines.reader)
      (g.R.BufferedSource.calls_left c.read_more.new.reader) (g.R.BufferedSource.has_failed c.read_more.new.reader)
      c.in_ok-read_more.field-0 c.lines.invariant.calls c.in_ok-read_more.ensures.source c.in-Line.is;
}

pub returns-then-not-is_inside-clause-lines : goal.returns-then-not-is_inside-clause-lines
returns-then-not-is_inside-clause-lines g c =
    row_counted (g.R.BufferedSource.remaining c.args.reader.now) (g.R.BufferedSource.remaining c.lines.reader)
    (g.R.BufferedSource.remaining c.read_more.new.reader) c.lines.row.items c.read_more.new.bytes.items
    c.lines.quoting c.lines.count c.saturating_add-count.result c.in_ok-read_more.field-0 c.lines.invariant.front
    c.lines.invariant.counted c.in_ok-read_more.ensures.read c.in-Line.is c.saturating_add-count.ensures
