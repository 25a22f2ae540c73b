use Rattle.timefd_laws.proofs.ReadingLemmas.StampExampleLemmas as lemmas
use Rattle.timefd_laws.proofs.reading.examples.stamp_again_example.Goals as goal

pub returns : goal.returns
returns c = lemmas.stamp_again_example
