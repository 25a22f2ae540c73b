use Rattle.timefd_laws.proofs.EscapeLemmas.{run_is_literal}
use Rattle.timefd_laws.proofs.escapes.a_run_is_its_literal.Goals as goal

pub returns : goal.returns
returns c = run_is_literal
