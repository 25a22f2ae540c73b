use Rattle.timefd_lang_convert.proofs.LetterLemmas.{flattening_law}
use Rattle.timefd_lang_convert.proofs.laws.flattening.Goals as goal

pub returns : goal.returns
returns c = flattening_law
