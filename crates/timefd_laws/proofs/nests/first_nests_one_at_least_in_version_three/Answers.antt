use Rattle.timefd_laws.proofs.NestLemmas.{one_alternative_at_least}
use Rattle.timefd_laws.proofs.nests.first_nests_one_at_least_in_version_three.Goals as goal

pub returns : goal.returns
returns c = one_alternative_at_least
