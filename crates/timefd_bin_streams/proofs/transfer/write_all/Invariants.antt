use Rattle.std.proofs.Common.{◌≡◌, ℕ, List, ◌++◌, length}
use Rattle.std.specs.Io.KnownBytes.{Appends}
use Rattle.timefd_bin_streams.proofs.transfer.write_all.Given as goal

-- The front of the text is written.
abbrev pub invariant-writes : goal.invariant-writes
invariant-writes g l =
    (front : List ℕ) × (front ++ l.rest ≡ l.text)
    × Appends (g.W.Sink.contents l.fn.sink) (g.W.Sink.contents l.sink) front

abbrev pub decreases-writes : goal.decreases-writes
decreases-writes g l = length l.rest
