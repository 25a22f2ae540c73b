use Rattle.timefd_laws.proofs.ExampleLemmas.{refused_texts}
use Rattle.timefd_laws.proofs.examples.the_refused_texts_have_these_faults.Goals as goal

pub returns : goal.returns
returns c = refused_texts
