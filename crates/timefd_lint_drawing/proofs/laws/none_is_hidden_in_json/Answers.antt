use Rattle.timefd_lint_drawing.proofs.JsonLemmas.{none_is_hidden_in_json}
use Rattle.timefd_lint_drawing.proofs.laws.none_is_hidden_in_json.Goals as goal

pub returns : goal.returns
returns c = none_is_hidden_in_json
