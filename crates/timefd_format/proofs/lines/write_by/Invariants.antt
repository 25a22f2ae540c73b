use Rattle.std.proofs.Common.{◌≡◌, false}
use Rattle.timefd_format.proofs.LineReportLemmas.{CompletesReports}
use Rattle.timefd_format.proofs.RunLemmas.{CompletesLines}
use Rattle.timefd_format.proofs.lines.write_by.Given as goal

-- The lines that were taken from the reader are written, and reported with their numbers. None of them was a failed
-- read.
abbrev pub invariant-lines : goal.invariant-lines
invariant-lines g l = record {
  written : CompletesLines l.otherwise l.source l.description (g.R.BufferedSource.remaining l.fn.reader)
      (g.R.BufferedSource.remaining l.reader) (g.W.Sink.contents l.fn.output) (g.W.Sink.contents l.output) l.tally;
  read : l.tally.has_failed ≡ false;
  reported : CompletesReports l.source l.description 1 l.line (g.R.BufferedSource.remaining l.fn.reader)
      (g.R.BufferedSource.remaining l.reader) (g.E.Sink.contents l.fn.errors) (g.E.Sink.contents l.errors)
      (g.E.Sink.has_failed l.fn.errors) (g.E.Sink.has_failed l.errors);
}

abbrev pub decreases-lines : goal.decreases-lines
decreases-lines g l = g.R.BufferedSource.calls_left l.reader
