use Rattle.timefd_lang_convert.proofs.PrintingLemmas.LawLemmas.{print_alike_law}
use Rattle.timefd_lang_convert.proofs.printing.laws.print_alike.Goals as goal

pub returns : goal.returns
returns c = print_alike_law
