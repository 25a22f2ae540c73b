use Rattle.timefd_laws.proofs.EscapeLemmas.{doubled_bracket}
use Rattle.timefd_laws.proofs.escapes.a_doubled_bracket_is_one_in_version_one.Goals as goal

pub returns : goal.returns
returns c = doubled_bracket
