use Rattle.timefd_lift.proofs.Rewritten.{twice_law}
use Rattle.timefd_lift.proofs.laws.written_once.Goals as goal

pub returns : goal.returns
returns c = twice_law
