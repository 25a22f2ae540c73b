use Rattle.timefd_laws.proofs.ExampleLemmas.{spelled_texts}
use Rattle.timefd_laws.proofs.examples.the_spelled_texts_have_these_items.Goals as goal

pub returns : goal.returns
returns c = spelled_texts
