use Rattle.std.proofs.Common.{drop}
use Rattle.timefd_lint_drawing.specs.Counted.{IsCounted}
use Rattle.timefd_lint_sources.proofs.ReportLemmas.{IsReportedTo}
use Rattle.timefd_lint_sources.proofs.source.report_all.Given as goal

-- The answer for the rest is the answer for everything.
abbrev pub invariant-loop-description : goal.invariant-loop-description
invariant-loop-description l = record {
  counted : IsCounted 1 l.source.text.now l.from;
  reported : IsReportedTo l.reporting l.source l.descriptions (drop l.description-index l.descriptions)
      l.ends.items l.message.items;
}
