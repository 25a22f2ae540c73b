use Rattle.timefd_laws.proofs.ModifierLemmas.{unknown_key}
use Rattle.timefd_laws.proofs.modifiers.an_unknown_key_is_reported.Goals as goal

pub returns : goal.returns
returns c = unknown_key
