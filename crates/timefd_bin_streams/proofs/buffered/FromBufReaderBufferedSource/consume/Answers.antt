use Rattle.timefd_bin_streams.proofs.BufferedLemmas.{taken}
use Rattle.timefd_bin_streams.proofs.buffered.FromBufReaderBufferedSource.consume.Goals as goal

pub returns-clause-bytes : goal.returns-clause-bytes
returns-clause-bytes g c =
    taken g.R.Read.remaining c.args.self.now.inner c.consume.new.self c.args.amount c.consume.ensures.buffer
    c.consume.ensures.inner c.consume.ensures.capacity
