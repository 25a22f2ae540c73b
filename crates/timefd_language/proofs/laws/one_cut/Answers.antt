use Rattle.timefd_language.proofs.LawLemmas.{one_cut_law}
use Rattle.timefd_language.proofs.laws.one_cut.Goals as goal

pub returns : goal.returns
returns c = one_cut_law
