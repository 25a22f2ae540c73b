use Rattle.timefd_laws.proofs.BracketLemmas.{unclosed_reported}
use Rattle.timefd_laws.proofs.brackets.an_unclosed_bracket_is_reported.Goals as goal

pub returns : goal.returns
returns c = unclosed_reported
