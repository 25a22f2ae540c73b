use Rattle.timefd_laws.proofs.NestLemmas.{components_nest_nothing}
use Rattle.timefd_laws.proofs.nests.components_nest_nothing.Goals as goal

pub returns : goal.returns
returns c = components_nest_nothing
