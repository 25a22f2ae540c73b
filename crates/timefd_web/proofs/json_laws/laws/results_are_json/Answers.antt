use Rattle.timefd_web.proofs.JsonLawLemmas.Results.{results_are_json}
use Rattle.timefd_web.proofs.json_laws.laws.results_are_json.Goals as goal

pub returns : goal.returns
returns c = results_are_json
