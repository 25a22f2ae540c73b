use Rattle.timefd_language.proofs.FaultShapes.{strftime_faults_lie_between_law}
use Rattle.timefd_language.proofs.laws.strftime_faults_lie_between.Goals as goal

pub returns : goal.returns
returns c = strftime_faults_lie_between_law
