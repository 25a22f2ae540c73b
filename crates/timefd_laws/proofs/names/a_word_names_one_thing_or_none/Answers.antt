use Rattle.timefd_laws.proofs.NameLemmas.{one_name}
use Rattle.timefd_laws.proofs.names.a_word_names_one_thing_or_none.Goals as goal

pub returns : goal.returns
returns c = one_name
