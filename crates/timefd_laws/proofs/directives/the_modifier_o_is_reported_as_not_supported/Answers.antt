use Rattle.timefd_laws.proofs.DirectiveLemmas.{modifier_O}
use Rattle.timefd_laws.proofs.directives.the_modifier_o_is_reported_as_not_supported.Goals as goal

pub returns : goal.returns
returns c = modifier_O
