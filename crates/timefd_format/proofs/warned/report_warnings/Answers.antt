use Rattle.std.proofs.Common.{◌∙◌}
use Rattle.timefd_format.proofs.RunReportLemmas.{gets_warnings}
use Rattle.timefd_format.proofs.WarnedLemmas.{reports}
use Rattle.timefd_format.proofs.warned.report_warnings.Goals as goal

pub returns : goal.returns
returns g c = record {
  seen =
      reports c.args.is_colored c.args.texts c.args.warned (g.E.Sink.contents c.args.errors.now)
      (g.E.Sink.contents c.report_drawn.new.errors) (g.E.Sink.has_failed c.report_drawn.new.errors) c.in_ok-reported.reported c.named-read.result
      c.named-written.result c.deref.result.now c.named-read.ensures c.named-written.ensures
      (c.deref.ensures.value ∙ c.in_ok-message.ensures) c.in_ok-reported.ensures.seen;
  gets =
      gets_warnings c.args.is_colored c.args.texts c.args.warned (g.E.Sink.contents c.args.errors.now)
      (g.E.Sink.contents c.report_drawn.new.errors) (g.E.Sink.has_failed c.args.errors.now)
      (g.E.Sink.has_failed c.report_drawn.new.errors) c.named-read.result c.named-written.result c.deref.result.now
      c.named-read.ensures c.named-written.ensures (c.deref.ensures.value ∙ c.in_ok-message.ensures)
      c.in_ok-reported.ensures.gets;
}
