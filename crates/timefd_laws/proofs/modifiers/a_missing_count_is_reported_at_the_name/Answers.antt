use Rattle.timefd_laws.proofs.ModifierLemmas.{missing_count}
use Rattle.timefd_laws.proofs.modifiers.a_missing_count_is_reported_at_the_name.Goals as goal

pub returns : goal.returns
returns c = missing_count
