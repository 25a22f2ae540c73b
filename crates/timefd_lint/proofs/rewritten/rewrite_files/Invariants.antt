use Rattle.std.proofs.Common.{length}
use Rattle.timefd_lint.specs.Stores.{IsFileDone, stage}
use Rattle.timefd_lint.proofs.StoreLemmas.{IsDoneTo}
use Rattle.timefd_lint.proofs.rewritten.rewrite_files.Given as goal

-- The remaining names decide.
abbrev pub invariant-names : goal.invariant-names
invariant-names g l =
    IsDoneTo g.S.Store.leads
    (IsFileDone g.S.Store.holds g.S.Store.fails g.S.Store.replaces g.S.Store.refuses l.options l.rewriting l.audience)
    l.fn.options.files.now l.rest l.met.items l.tally
    (stage l.fn.store (g.E.Sink.contents l.fn.errors) (g.E.Sink.has_failed l.fn.errors) (g.W.Sink.contents l.fn.output))
    (stage l.store (g.E.Sink.contents l.errors) (g.E.Sink.has_failed l.errors) (g.W.Sink.contents l.output))

abbrev pub decreases-names : goal.decreases-names
decreases-names g l = length l.rest
