use Rattle.timefd_laws.proofs.DirectiveLemmas.{letter_is_item}
use Rattle.timefd_laws.proofs.directives.a_letter_is_its_item.Goals as goal

pub returns : goal.returns
returns c = letter_is_item
