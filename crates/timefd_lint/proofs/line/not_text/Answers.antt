use Rattle.std.proofs.Common.{◌∙◌}
use Rattle.timefd_lint.proofs.TextLemmas.{no_text_written}
use Rattle.timefd_lint.proofs.line.not_text.Goals as goal

pub returns-clause-written : goal.returns-clause-written
returns-clause-written g c =
    no_text_written c.args.options.reporting.style c.args.origin
    (g.W.Sink.contents c.args.writer.now) (g.W.Sink.contents c.write.new.writer)
    c.deref.result.now (c.deref.ensures.value ∙ c.in_ok-message.ensures.exact)
    c.in_ok-write.ensures.written
