use Rattle.timefd_laws.proofs.ReadingLemmas.WrittenLemmas as lemmas
use Rattle.timefd_laws.proofs.reading.written_laws.plain_reads_written.Goals as goal

pub returns : goal.returns
returns c = lemmas.plain_reads_written
