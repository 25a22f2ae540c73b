use Rattle.timefd_laws.proofs.DirectiveLemmas.{unknown_letter}
use Rattle.timefd_laws.proofs.directives.an_unknown_letter_is_reported_by_its_byte.Goals as goal

pub returns : goal.returns
returns c = unknown_letter
