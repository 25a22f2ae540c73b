use Rattle.timefd_lang_convert.proofs.PrintingLemmas.PrintedLemmas.{printing_law}
use Rattle.timefd_lang_convert.proofs.printing.laws.printing.Goals as goal

pub returns : goal.returns
returns c = printing_law
