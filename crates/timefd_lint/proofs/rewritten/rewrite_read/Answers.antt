use Rattle.std.proofs.Common.{Some, subst}
use Rattle.std.proofs.lemmas.Result.{IfOk-weaker}
use Rattle.timefd_lint.specs.Fates.{IsFoundIn}
use Rattle.timefd_lint.proofs.StoreLemmas.{found_in}
use Rattle.timefd_lint.proofs.rewritten.rewrite_read.Goals as goal

pub returns-clause-done : goal.returns-clause-done
returns-clause-done g c =
    let seen = subst (λ found. IsFoundIn c.args.options c.args.rewriting c.args.name.now c.deref.result.now
    (g.W.Sink.contents c.args.output.now) (g.W.Sink.contents c.found_of.new.output) found) c.in-Some.is
    c.in_ok-found.ensures.found in
    IfOk-weaker c.settle.result _ _
    (λ tally. found_in g.S.Store.replaces g.S.Store.refuses c.args.options c.args.rewriting c.args.audience
    c.args.name c.args.old.now.bytes.items c.deref-2.result.now c.deref-3.result.now c.in-Some.found
    c.args.store.now c.settle.new.store
    (g.E.Sink.contents c.args.errors.now) (g.E.Sink.contents c.report.new.errors)
    (g.E.Sink.contents c.report-2.new.errors) (g.E.Sink.contents c.settle.new.errors)
    (g.E.Sink.has_failed c.args.errors.now) (g.E.Sink.has_failed c.report.new.errors)
    (g.E.Sink.has_failed c.report-2.new.errors) (g.E.Sink.has_failed c.settle.new.errors)
    (g.W.Sink.contents c.args.output.now) (g.W.Sink.contents c.found_of.new.output)
    (g.W.Sink.contents c.settle.new.output)
    (subst (λ bytes. IsFoundIn c.args.options c.args.rewriting c.args.name.now bytes
    (g.W.Sink.contents c.args.output.now) (g.W.Sink.contents c.found_of.new.output) (Some c.in-Some.found))
    c.deref.ensures.value seen)
    c.report.ensures c.deref-2.ensures c.report-2.ensures c.deref-3.ensures tally) c.settle.ensures.settled
