use Rattle.timefd_laws.proofs.BracketLemmas.{fault_inside}
use Rattle.timefd_laws.proofs.brackets.a_fault_inside_is_reported_where_it_stands.Goals as goal

pub returns : goal.returns
returns c = fault_inside
