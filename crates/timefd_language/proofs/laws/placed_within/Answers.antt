use Rattle.timefd_language.proofs.PositionsWithin.{placed_within_law}
use Rattle.timefd_language.proofs.laws.placed_within.Goals as goal

pub returns : goal.returns
returns c = placed_within_law
