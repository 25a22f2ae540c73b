use Rattle.timefd_laws.proofs.ReadingLemmas.ExampleLemmas as lemmas
use Rattle.timefd_laws.proofs.reading.written_examples.long_year_example.Goals as goal

pub returns : goal.returns
returns c = lemmas.long_year_example
