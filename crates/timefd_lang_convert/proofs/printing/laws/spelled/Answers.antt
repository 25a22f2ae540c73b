use Rattle.timefd_lang_convert.proofs.PrintingLemmas.SpelledLemmas.{spelled_law}
use Rattle.timefd_lang_convert.proofs.printing.laws.spelled.Goals as goal

pub returns : goal.returns
returns c = spelled_law
