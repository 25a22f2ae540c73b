use Rattle.timefd_laws.proofs.BracketLemmas.{cut_off_reported}
use Rattle.timefd_laws.proofs.brackets.a_bracket_cut_off_inside_is_reported_as_unclosed.Goals as goal

pub returns : goal.returns
returns c = cut_off_reported
