use Rattle.timefd_laws.proofs.BracketLemmas.{name_wanted}
use Rattle.timefd_laws.proofs.brackets.a_missing_name_is_reported_at_the_bracket.Goals as goal

pub returns : goal.returns
returns c = name_wanted
