use Rattle.timefd_lift.proofs.Rewritten.{writing_law}
use Rattle.timefd_lift.proofs.laws.writing.Goals as goal

pub returns : goal.returns
returns c = writing_law
