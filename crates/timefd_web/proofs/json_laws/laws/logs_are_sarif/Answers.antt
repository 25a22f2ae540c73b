use Rattle.timefd_web.proofs.JsonLawLemmas.Sarif.{logs_are_sarif}
use Rattle.timefd_web.proofs.json_laws.laws.logs_are_sarif.Goals as goal

pub returns : goal.returns
returns c = logs_are_sarif
