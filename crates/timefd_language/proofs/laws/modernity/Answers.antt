use Rattle.timefd_language.proofs.ModernPieces.{modernity_law}
use Rattle.timefd_language.proofs.laws.modernity.Goals as goal

pub returns : goal.returns
returns c = modernity_law
