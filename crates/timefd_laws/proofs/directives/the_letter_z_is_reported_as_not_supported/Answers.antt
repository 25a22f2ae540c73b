use Rattle.timefd_laws.proofs.DirectiveLemmas.{letter_Z}
use Rattle.timefd_laws.proofs.directives.the_letter_z_is_reported_as_not_supported.Goals as goal

pub returns : goal.returns
returns c = letter_Z
