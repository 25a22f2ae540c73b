use Rattle.timefd_laws.proofs.ReadingLemmas.WrittenLemmas as lemmas
use Rattle.timefd_laws.proofs.reading.written_laws.writes_again.Goals as goal

pub returns : goal.returns
returns c = lemmas.writes_again
