use Rattle.timefd_lift.proofs.Rewritten.{read_alike_law}
use Rattle.timefd_lift.proofs.laws.read_alike.Goals as goal

pub returns : goal.returns
returns c = read_alike_law
