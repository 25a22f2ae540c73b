use Rattle.std.proofs.Common.{◌≤◌}
use Rattle.timefd_format.specs.TableReports.{AreLinesOfRecord}
use Rattle.timefd_format.proofs.RecordLemmas.{IsSoFar}
use Rattle.timefd_format.proofs.records.read_record.Given as goal

-- What was read is the front of the record, and its lines are counted.
abbrev pub invariant-lines : goal.invariant-lines
invariant-lines g l = record {
  front : IsSoFar (g.R.BufferedSource.remaining l.fn.reader) (g.R.BufferedSource.remaining l.reader) l.row.items
      l.quoting;
  counted : AreLinesOfRecord (g.R.BufferedSource.remaining l.fn.reader) l.row.items
      (g.R.BufferedSource.remaining l.reader) l.count;
  calls : g.R.BufferedSource.calls_left l.reader ≤ g.R.BufferedSource.calls_left l.fn.reader;
}

abbrev pub decreases-lines : goal.decreases-lines
decreases-lines g l = g.R.BufferedSource.calls_left l.reader
