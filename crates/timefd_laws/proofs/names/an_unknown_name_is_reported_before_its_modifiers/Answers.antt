use Rattle.timefd_laws.proofs.NameLemmas.{unknown_name}
use Rattle.timefd_laws.proofs.names.an_unknown_name_is_reported_before_its_modifiers.Goals as goal

pub returns : goal.returns
returns c = unknown_name
