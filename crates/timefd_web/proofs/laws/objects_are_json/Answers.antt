use Rattle.timefd_web.proofs.ValueLemmas.{objects_are_json}
use Rattle.timefd_web.proofs.laws.objects_are_json.Goals as goal

pub returns : goal.returns
returns c = objects_are_json
