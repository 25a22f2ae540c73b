use Rattle.timefd_laws.proofs.BracketLemmas.{value_wanted}
use Rattle.timefd_laws.proofs.brackets.an_empty_value_is_reported_at_the_colon.Goals as goal

pub returns : goal.returns
returns c = value_wanted
