use Rattle.timefd_laws.proofs.EscapeLemmas.{escape_wanted_at_the_end}
use Rattle.timefd_laws.proofs.escapes.a_backslash_at_the_end_is_reported_where_it_stands.Goals as goal

pub returns : goal.returns
returns c = escape_wanted_at_the_end
