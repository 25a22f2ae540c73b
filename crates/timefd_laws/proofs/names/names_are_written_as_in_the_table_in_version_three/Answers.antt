use Rattle.timefd_laws.proofs.NameLemmas.{names_with_case}
use Rattle.timefd_laws.proofs.names.names_are_written_as_in_the_table_in_version_three.Goals as goal

pub returns : goal.returns
returns c = names_with_case
