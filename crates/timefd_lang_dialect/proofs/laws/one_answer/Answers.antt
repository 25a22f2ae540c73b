use Rattle.timefd_lang_dialect.proofs.LawLemmas.{one_answer_law}
use Rattle.timefd_lang_dialect.proofs.laws.one_answer.Goals as goal

pub returns : goal.returns
returns c = one_answer_law
