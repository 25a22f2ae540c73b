use Rattle.std.proofs.Common.{◌≡◌, ◌-◌, ◌^◌, length}
use Rattle.std.specs.Io.KnownBytes.{Consumes}
use Rattle.timefd_bin_streams.proofs.transfer.read_all.Given as goal

-- The bytes that were taken from the source are in the list.
abbrev pub invariant-pieces : goal.invariant-pieces
invariant-pieces g l = record {
  room : length l.piece ≡ 65536;
  read : Consumes (g.R.Source.remaining l.fn.source) (g.R.Source.remaining l.source) l.all.items;
}

abbrev pub decreases-pieces : goal.decreases-pieces
decreases-pieces g l = 2 ^ 63 - l.all.len
