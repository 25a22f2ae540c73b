use Rattle.timefd_laws.proofs.ReadingLemmas.ExampleLemmas as lemmas
use Rattle.timefd_laws.proofs.reading.written_examples.needs_all_read.Goals as goal

pub returns : goal.returns
returns c = lemmas.needs_all_read
