use Rattle.timefd_language.proofs.SlotLackLemmas.{slots_lack_law}
use Rattle.timefd_language.proofs.laws.slots_lack.Goals as goal

pub returns : goal.returns
returns c = slots_lack_law
