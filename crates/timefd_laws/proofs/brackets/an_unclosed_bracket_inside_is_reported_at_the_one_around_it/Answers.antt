use Rattle.timefd_laws.proofs.BracketLemmas.{unclosed_inside}
use Rattle.timefd_laws.proofs.brackets.an_unclosed_bracket_inside_is_reported_at_the_one_around_it.Goals as goal

pub returns : goal.returns
returns c = unclosed_inside
