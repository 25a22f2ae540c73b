use Rattle.timefd_language.proofs.Relax.{relaxing_law}
use Rattle.timefd_language.proofs.laws.relaxing.Goals as goal

pub returns : goal.returns
returns c = relaxing_law
