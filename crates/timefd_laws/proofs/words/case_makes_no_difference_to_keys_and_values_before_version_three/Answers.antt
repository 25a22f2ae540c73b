use Rattle.timefd_laws.proofs.WordLemmas.{words_without_case}
use Rattle.timefd_laws.proofs.words.case_makes_no_difference_to_keys_and_values_before_version_three.Goals as goal

pub returns : goal.returns
returns c = words_without_case
