use Rattle.timefd_laws.proofs.BracketLemmas.{name_wanted_after_white}
use Rattle.timefd_laws.proofs.brackets.a_missing_name_after_white_is_reported_one_byte_further.Goals as goal

pub returns : goal.returns
returns c = name_wanted_after_white
