use Rattle.timefd_language.proofs.Settle.{settled_law}
use Rattle.timefd_language.proofs.laws.settled.Goals as goal

pub returns : goal.returns
returns c = settled_law
