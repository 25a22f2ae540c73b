use Rattle.std.proofs.Common.{refl}
use Rattle.timefd_language.proofs.laws.distinct_letters.Goals as goal

pub returns : goal.returns
returns c = refl
