use Rattle.timefd_laws.proofs.DirectiveLemmas.{plain_is_literal}
use Rattle.timefd_laws.proofs.directives.a_plain_run_is_its_literal.Goals as goal

pub returns : goal.returns
returns c = plain_is_literal
