use Rattle.timefd_laws.proofs.ModifierLemmas.{useless_key}
use Rattle.timefd_laws.proofs.modifiers.a_key_of_no_use_is_reported_in_version_three.Goals as goal

pub returns : goal.returns
returns c = useless_key
