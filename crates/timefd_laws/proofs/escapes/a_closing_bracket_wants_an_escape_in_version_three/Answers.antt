use Rattle.timefd_laws.proofs.EscapeLemmas.{closing_wants_escape}
use Rattle.timefd_laws.proofs.escapes.a_closing_bracket_wants_an_escape_in_version_three.Goals as goal

pub returns : goal.returns
returns c = closing_wants_escape
