use Rattle.timefd_laws.proofs.NameLemmas.{names_without_case}
use Rattle.timefd_laws.proofs.names.case_makes_no_difference_to_names_before_version_three.Goals as goal

pub returns : goal.returns
returns c = names_without_case
