use Rattle.timefd_laws.proofs.OutermostLemmas.{outermost_unclosed}
use Rattle.timefd_laws.proofs.brackets.an_unclosed_bracket_is_reported_at_the_outermost_one.Goals as goal

pub returns : goal.returns
returns c = outermost_unclosed
