use Rattle.std.proofs.Common.{length}
use Rattle.timefd_format.proofs.FrameLemmas.{Completes}
use Rattle.timefd_format.proofs.field.send_doubled.Given as goal

-- The bytes that were taken are written.
abbrev pub invariant-bytes : goal.invariant-bytes
invariant-bytes g l =
    Completes l.fn.text l.rest (g.W.Sink.contents l.fn.output) (g.W.Sink.contents l.output)

abbrev pub decreases-bytes : goal.decreases-bytes
decreases-bytes g l = length l.rest
