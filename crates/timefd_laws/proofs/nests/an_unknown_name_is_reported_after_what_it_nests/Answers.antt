use Rattle.timefd_laws.proofs.NestLemmas.{unknown_names_nest_nothing}
use Rattle.timefd_laws.proofs.nests.an_unknown_name_is_reported_after_what_it_nests.Goals as goal

pub returns : goal.returns
returns c = unknown_names_nest_nothing
