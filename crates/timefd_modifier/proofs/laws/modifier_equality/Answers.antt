use Rattle.timefd_modifier.proofs.ModifierTests.{modifier_equality_law}
use Rattle.timefd_modifier.proofs.laws.modifier_equality.Goals as goal

pub returns : goal.returns
returns c = modifier_equality_law
