use Rattle.timefd_laws.proofs.ModifierLemmas.{repeated_key}
use Rattle.timefd_laws.proofs.modifiers.a_repeated_key_is_reported_before_its_value_in_version_three.Goals as goal

pub returns : goal.returns
returns c = repeated_key
