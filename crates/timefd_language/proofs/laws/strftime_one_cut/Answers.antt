use Rattle.timefd_language.proofs.StrftimeReader.{strftime_one_cut_law}
use Rattle.timefd_language.proofs.laws.strftime_one_cut.Goals as goal

pub returns : goal.returns
returns c = strftime_one_cut_law
