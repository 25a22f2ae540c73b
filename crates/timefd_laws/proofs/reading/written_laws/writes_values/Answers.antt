use Rattle.timefd_laws.proofs.ReadingLemmas.ValuesWrittenLemmas as lemmas
use Rattle.timefd_laws.proofs.reading.written_laws.writes_values.Goals as goal

pub returns : goal.returns
returns c = lemmas.writes_values
