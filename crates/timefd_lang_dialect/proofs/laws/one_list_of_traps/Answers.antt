use Rattle.timefd_lang_dialect.proofs.SpotLemmas.{one_list_of_traps_law}
use Rattle.timefd_lang_dialect.proofs.laws.one_list_of_traps.Goals as goal

pub returns : goal.returns
returns c = one_list_of_traps_law
