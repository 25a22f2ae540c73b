use Rattle.timefd_laws.proofs.BracketLemmas.{too_deep_reported}
use Rattle.timefd_laws.proofs.brackets.one_nested_description_too_deep_is_reported_at_its_bracket.Goals as goal

pub returns : goal.returns
returns c = too_deep_reported
