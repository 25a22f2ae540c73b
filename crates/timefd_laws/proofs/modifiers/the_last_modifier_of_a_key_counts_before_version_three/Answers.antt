use Rattle.timefd_laws.proofs.LastLemmas.{last_counts}
use Rattle.timefd_laws.proofs.modifiers.the_last_modifier_of_a_key_counts_before_version_three.Goals as goal

pub returns : goal.returns
returns c = last_counts
