use Rattle.timefd_lang_convert.proofs.PrintingLemmas.LawLemmas.{reads_back_law}
use Rattle.timefd_lang_convert.proofs.printing.laws.reads_back.Goals as goal

pub returns : goal.returns
returns c = reads_back_law
