use Rattle.timefd_web.proofs.JsonLawLemmas.Objects.{objects_are_json}
use Rattle.timefd_web.proofs.json_laws.laws.objects_are_json.Goals as goal

pub returns : goal.returns
returns c = objects_are_json
