use Rattle.timefd_laws.proofs.DirectiveLemmas.{letter_wanted}
use Rattle.timefd_laws.proofs.directives.a_percent_at_the_end_is_reported_where_it_stands.Goals as goal

pub returns : goal.returns
returns c = letter_wanted
