use Rattle.timefd_language.proofs.FaultShapes.{faults_lie_between_law}
use Rattle.timefd_language.proofs.laws.faults_lie_between.Goals as goal

pub returns : goal.returns
returns c = faults_lie_between_law
