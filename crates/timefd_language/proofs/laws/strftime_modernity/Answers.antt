use Rattle.timefd_language.proofs.ModernPieces.{strftime_modernity_law}
use Rattle.timefd_language.proofs.laws.strftime_modernity.Goals as goal

pub returns : goal.returns
returns c = strftime_modernity_law
