use Rattle.timefd_lang_component.proofs.EqualityLemmas.{component_equality_law}
use Rattle.timefd_lang_component.proofs.laws.component_equality.Goals as goal

pub returns : goal.returns
returns c = component_equality_law
