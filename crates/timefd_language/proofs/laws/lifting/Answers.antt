use Rattle.timefd_language.proofs.Lift.{lifting_law}
use Rattle.timefd_language.proofs.laws.lifting.Goals as goal

pub returns : goal.returns
returns c = lifting_law
