use Rattle.timefd_language.proofs.StrftimeReader.{strftime_one_answer_law}
use Rattle.timefd_language.proofs.laws.strftime_one_answer.Goals as goal

pub returns : goal.returns
returns c = strftime_one_answer_law
