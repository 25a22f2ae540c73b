use Rattle.std.specs.Io.Buffered.{reader_remaining}
use Rattle.std.specs.Io.KnownBytes.{Keeps}
use Rattle.timefd_bin_streams.proofs.buffered.fill_retrying.Given as goal

-- What the reader has left stays the same.
abbrev pub invariant-tries : goal.invariant-tries
invariant-tries g l =
    Keeps (reader_remaining g.R.Read.remaining l.fn.reader) (reader_remaining g.R.Read.remaining l.reader)
