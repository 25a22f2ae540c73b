use Rattle.timefd_laws.proofs.ReadingLemmas.ExampleLemmas as lemmas
use Rattle.timefd_laws.proofs.reading.written_examples.left_out_example.Goals as goal

pub returns : goal.returns
returns c = lemmas.left_out_example
