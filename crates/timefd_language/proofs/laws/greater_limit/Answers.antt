use Rattle.timefd_language.proofs.Limits.{greater_limit_law}
use Rattle.timefd_language.proofs.laws.greater_limit.Goals as goal

pub returns : goal.returns
returns c = greater_limit_law
