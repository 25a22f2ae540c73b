use Rattle.timefd_language.proofs.StrftimeReader.{strftime_shift_law}
use Rattle.timefd_language.proofs.laws.strftime_shift.Goals as goal

pub returns : goal.returns
returns c = strftime_shift_law
