use Rattle.timefd_laws.proofs.WordLemmas.{no_two_names}
use Rattle.timefd_laws.proofs.words.no_two_names_are_the_same_without_case.Goals as goal

pub returns : goal.returns
returns c = no_two_names
