use Rattle.timefd_laws.proofs.NestLemmas.{good_first}
use Rattle.timefd_laws.proofs.nests.first_is_what_it_nests_in_version_three.Goals as goal

pub returns : goal.returns
returns c = good_first
