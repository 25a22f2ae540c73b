use Rattle.timefd_language.proofs.LawLemmas.{one_reading_law}
use Rattle.timefd_language.proofs.laws.one_reading.Goals as goal

pub returns : goal.returns
returns c = one_reading_law
