use Rattle.timefd_laws.proofs.EscapeLemmas.{closing_is_literal}
use Rattle.timefd_laws.proofs.escapes.a_closing_bracket_is_its_literal_before_version_three.Goals as goal

pub returns : goal.returns
returns c = closing_is_literal
