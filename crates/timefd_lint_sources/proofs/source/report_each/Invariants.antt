use Rattle.timefd_lint_drawing.specs.Counted.{IsCounted}
use Rattle.timefd_lint_sources.specs.Reported.{AreReportedAs}
use Rattle.timefd_lint_sources.proofs.source.report_each.Given as goal

abbrev pub invariant-loop-description : goal.invariant-loop-description
invariant-loop-description l = record {
  counted : IsCounted 1 l.source.text.now l.counter;
  reported : AreReportedAs l.reporting l.source l.yielded l.ends.items l.message.items;
}
