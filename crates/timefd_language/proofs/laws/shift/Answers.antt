use Rattle.timefd_language.proofs.Join.{shift_law}
use Rattle.timefd_language.proofs.laws.shift.Goals as goal

pub returns : goal.returns
returns c = shift_law
