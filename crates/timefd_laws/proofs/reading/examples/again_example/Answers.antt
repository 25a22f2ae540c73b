use Rattle.timefd_laws.proofs.ReadingLemmas.ExampleLemmas as lemmas
use Rattle.timefd_laws.proofs.reading.examples.again_example.Goals as goal

pub returns : goal.returns
returns c = lemmas.again_example
