use Rattle.timefd_laws.proofs.NestLemmas.{first_in_version_three_alone}
use Rattle.timefd_laws.proofs.nests.first_is_refused_before_version_three.Goals as goal

pub returns : goal.returns
returns c = first_in_version_three_alone
