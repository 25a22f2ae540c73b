use Rattle.timefd_laws.proofs.ReadingLemmas.ExampleLemmas as lemmas
use Rattle.timefd_laws.proofs.reading.written_examples.written_example.Goals as goal

pub returns : goal.returns
returns c = lemmas.written_example
