use Rattle.std.specs.Io.Buffered.{reader_buffer, reader_remaining}
use Rattle.std.proofs.KnownBytes.{Keeps-trans}
use Rattle.timefd_bin_streams.proofs.BufferedLemmas.{nothing_shown}
use Rattle.timefd_bin_streams.proofs.buffered.fill_retrying.Goals as goal

pub returns-in-Ok-clause-bytes : goal.returns-in-Ok-clause-bytes
returns-in-Ok-clause-bytes g c =
    Keeps-trans (reader_remaining g.R.Read.remaining c.args.reader.now)
    (reader_remaining g.R.Read.remaining c.tries.reader)
    (reader_remaining g.R.Read.remaining c.fill_buf.follows.lender-at-none) c.tries.invariant
    c.fill_buf.follows.holds-at-none.0

pub returns-in-Ok-clause-at_end : goal.returns-in-Ok-clause-at_end
returns-in-Ok-clause-at_end g c =
    nothing_shown (reader_remaining g.R.Read.remaining c.args.reader.now)
    (reader_remaining g.R.Read.remaining c.tries.reader) c.in-Ok.field-0
    (reader_buffer c.fill_buf.follows.lender-at-none) c.fill_buf.result c.in-Ok.is c.tries.invariant
    c.fill_buf.follows.claims.1.0 c.fill_buf.follows.holds-at-none.1
