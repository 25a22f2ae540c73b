use Rattle.timefd_lint.proofs.SourcesLemmas.{noted_no_text}
use Rattle.timefd_lint.proofs.source_file.not_text.Goals as goal

pub returns-clause-noted : goal.returns-clause-noted
returns-clause-noted g c =
    noted_no_text c.args.options.reporting c.args.name (g.W.Sink.contents c.args.writer.now)
    (g.W.Sink.contents c.write.new.writer) c.in_ok-message.message.items c.deref.result.now
    c.of.result c.deref.ensures.value c.in_ok-message.ensures.exact c.in_ok-write.ensures.written
    c.of.ensures
