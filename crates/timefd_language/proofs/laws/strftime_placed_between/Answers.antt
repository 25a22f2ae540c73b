use Rattle.timefd_language.proofs.PositionsBetween.{strftime_placed_between_law}
use Rattle.timefd_language.proofs.laws.strftime_placed_between.Goals as goal

pub returns : goal.returns
returns c = strftime_placed_between_law
