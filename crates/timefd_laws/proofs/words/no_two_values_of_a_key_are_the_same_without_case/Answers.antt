use Rattle.timefd_laws.proofs.WordLemmas.{no_two_values}
use Rattle.timefd_laws.proofs.words.no_two_values_of_a_key_are_the_same_without_case.Goals as goal

pub returns : goal.returns
returns c = no_two_values
