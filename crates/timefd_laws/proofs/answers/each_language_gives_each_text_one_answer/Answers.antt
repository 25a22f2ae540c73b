use Rattle.timefd_laws.proofs.AnswerLemmas.{one_answer_in_each}
use Rattle.timefd_laws.proofs.answers.each_language_gives_each_text_one_answer.Goals as goal

pub returns : goal.returns
returns c = one_answer_in_each
