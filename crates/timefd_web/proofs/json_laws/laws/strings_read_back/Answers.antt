use Rattle.timefd_web.proofs.JsonLawLemmas.Strings.{strings_read_back}
use Rattle.timefd_web.proofs.json_laws.laws.strings_read_back.Goals as goal

pub returns : goal.returns
returns c = strings_read_back
