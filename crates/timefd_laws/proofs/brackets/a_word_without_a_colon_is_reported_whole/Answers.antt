use Rattle.timefd_laws.proofs.BracketLemmas.{colon_wanted}
use Rattle.timefd_laws.proofs.brackets.a_word_without_a_colon_is_reported_whole.Goals as goal

pub returns : goal.returns
returns c = colon_wanted
