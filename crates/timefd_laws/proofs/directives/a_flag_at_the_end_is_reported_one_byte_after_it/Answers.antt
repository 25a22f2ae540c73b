use Rattle.timefd_laws.proofs.DirectiveLemmas.{letter_wanted_after_flag}
use Rattle.timefd_laws.proofs.directives.a_flag_at_the_end_is_reported_one_byte_after_it.Goals as goal

pub returns : goal.returns
returns c = letter_wanted_after_flag
