use Rattle.timefd_lang_convert.proofs.PrintingLemmas.LawLemmas.{printed_once_law}
use Rattle.timefd_lang_convert.proofs.printing.laws.printed_once.Goals as goal

pub returns : goal.returns
returns c = printed_once_law
