use Rattle.std.proofs.Common.{◌≡◌, false}
use Rattle.timefd_format.proofs.TableLemmas.{Completes}
use Rattle.timefd_format.proofs.TableReportLemmas.{CompletesReports}
use Rattle.timefd_format.proofs.table.write_records.Given as goal

-- The records that were taken from the reader are written, and reported with their numbers. None of them was a failed
-- read.
abbrev pub invariant-records : goal.invariant-records
invariant-records g l = record {
  written : Completes l.otherwise l.source l.description l.count (g.R.BufferedSource.remaining l.fn.reader)
      (g.R.BufferedSource.remaining l.reader) (g.W.Sink.contents l.fn.output) (g.W.Sink.contents l.output) l.tally;
  read : l.tally.has_failed ≡ false;
  reported : CompletesReports l.source l.description l.count l.fn.first_line l.line
      (g.R.BufferedSource.remaining l.fn.reader) (g.R.BufferedSource.remaining l.reader)
      (g.E.Sink.contents l.fn.errors) (g.E.Sink.contents l.errors) (g.E.Sink.has_failed l.fn.errors)
      (g.E.Sink.has_failed l.errors);
}

abbrev pub decreases-records : goal.decreases-records
decreases-records g l = g.R.BufferedSource.calls_left l.reader
