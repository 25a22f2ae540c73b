use Rattle.timefd_laws.proofs.ModifierLemmas.{bad_value_reported}
use Rattle.timefd_laws.proofs.modifiers.a_bad_value_is_reported.Goals as goal

pub returns : goal.returns
returns c = bad_value_reported
