use Rattle.timefd_lift.proofs.Rewritten.{components_read_law}
use Rattle.timefd_lift.proofs.laws.components_read.Goals as goal

pub returns : goal.returns
returns c = components_read_law
