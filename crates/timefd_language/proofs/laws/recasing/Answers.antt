use Rattle.timefd_language.proofs.Recase.{recasing_law}
use Rattle.timefd_language.proofs.laws.recasing.Goals as goal

pub returns : goal.returns
returns c = recasing_law
