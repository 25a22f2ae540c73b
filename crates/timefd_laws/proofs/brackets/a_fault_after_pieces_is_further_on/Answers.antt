use Rattle.timefd_laws.proofs.BracketLemmas.{fault_after_pieces}
use Rattle.timefd_laws.proofs.brackets.a_fault_after_pieces_is_further_on.Goals as goal

pub returns : goal.returns
returns c = fault_after_pieces
