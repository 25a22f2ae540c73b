use Rattle.timefd_laws.proofs.BracketLemmas.{refused_bracket}
use Rattle.timefd_laws.proofs.brackets.a_closed_bracket_has_the_fault_of_its_rules.Goals as goal

pub returns : goal.returns
returns c = refused_bracket
