use Rattle.timefd_laws.proofs.NestLemmas.{optional_in_version_three_alone}
use Rattle.timefd_laws.proofs.nests.a_good_optional_is_refused_before_version_three.Goals as goal

pub returns : goal.returns
returns c = optional_in_version_three_alone
