use Rattle.timefd_web.proofs.JsonLawLemmas.Logs.{logs_are_json}
use Rattle.timefd_web.proofs.json_laws.laws.logs_are_json.Goals as goal

pub returns : goal.returns
returns c = logs_are_json
