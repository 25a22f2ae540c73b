use Rattle.timefd_laws.proofs.EscapeLemmas.{escape_wanted}
use Rattle.timefd_laws.proofs.escapes.a_bad_escape_is_reported_after_its_backslash.Goals as goal

pub returns : goal.returns
returns c = escape_wanted
