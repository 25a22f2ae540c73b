use Rattle.timefd_laws.proofs.NestLemmas.{one_optional_at_most}
use Rattle.timefd_laws.proofs.nests.optional_nests_one_at_most.Goals as goal

pub returns : goal.returns
returns c = one_optional_at_most
