use Rattle.timefd_lint.proofs.RuleLemmas.{log_written}
use Rattle.timefd_lint.proofs.log.write_log.Goals as goal

pub returns-clause-written : goal.returns-clause-written
returns-clause-written g c =
    log_written c.write.result c.args.results.now c.in_ok-head.head.items c.deref.result.now
    c.in_ok-log.log.items c.deref-2.result.now (g.W.Sink.contents c.args.writer.now)
    (g.W.Sink.contents c.write.new.writer) c.in_ok-head.ensures c.deref.ensures.value
    c.in_ok-log.ensures c.deref-2.ensures.value c.write.ensures.written
