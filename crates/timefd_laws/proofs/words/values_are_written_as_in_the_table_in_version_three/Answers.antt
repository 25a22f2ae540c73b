use Rattle.timefd_laws.proofs.WordLemmas.{values_with_case}
use Rattle.timefd_laws.proofs.words.values_are_written_as_in_the_table_in_version_three.Goals as goal

pub returns : goal.returns
returns c = values_with_case
