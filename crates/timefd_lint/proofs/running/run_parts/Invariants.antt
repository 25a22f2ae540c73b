use Rattle.std.proofs.Common.{length}
use Rattle.timefd_lint.proofs.PartLemmas.{AreRunTo}
use Rattle.timefd_lint.proofs.running.run_parts.Given as goal

-- The remaining parts decide.
abbrev pub invariant-parts : goal.invariant-parts
invariant-parts g l =
    AreRunTo l.is_colored l.fn.parts l.rest (g.W.Sink.contents l.fn.output) (g.W.Sink.contents l.output) l.tally

abbrev pub decreases-parts : goal.decreases-parts
decreases-parts g l = length l.rest
