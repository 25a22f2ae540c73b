use Rattle.timefd_laws.proofs.ModifierLemmas.{good_component}
use Rattle.timefd_laws.proofs.modifiers.a_component_is_what_its_modifiers_set.Goals as goal

pub returns : goal.returns
returns c = good_component
