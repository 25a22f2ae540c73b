use Rattle.timefd_language.proofs.Join.{joining_law}
use Rattle.timefd_language.proofs.laws.joining.Goals as goal

pub returns : goal.returns
returns c = joining_law
