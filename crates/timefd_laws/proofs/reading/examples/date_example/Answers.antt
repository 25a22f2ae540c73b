use Rattle.timefd_laws.proofs.ReadingLemmas.ExampleLemmas as lemmas
use Rattle.timefd_laws.proofs.reading.examples.date_example.Goals as goal

pub returns : goal.returns
returns c = lemmas.date_example
