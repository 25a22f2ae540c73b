use Rattle.timefd_laws.proofs.BracketLemmas.{key_wanted}
use Rattle.timefd_laws.proofs.brackets.an_empty_key_is_reported_where_its_word_begins.Goals as goal

pub returns : goal.returns
returns c = key_wanted
