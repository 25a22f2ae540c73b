use Rattle.timefd_language.proofs.StrftimeReader.{strftime_joining_law}
use Rattle.timefd_language.proofs.laws.strftime_joining.Goals as goal

pub returns : goal.returns
returns c = strftime_joining_law
