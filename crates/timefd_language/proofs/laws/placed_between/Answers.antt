use Rattle.timefd_language.proofs.PositionsBetween.{placed_between_law}
use Rattle.timefd_language.proofs.laws.placed_between.Goals as goal

pub returns : goal.returns
returns c = placed_between_law
