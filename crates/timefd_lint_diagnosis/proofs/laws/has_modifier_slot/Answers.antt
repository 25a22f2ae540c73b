use Rattle.timefd_lint_diagnosis.proofs.ModifierSlotLemmas.{modifier_slot}
use Rattle.timefd_lint_diagnosis.proofs.laws.has_modifier_slot.Goals as goal

pub returns : goal.returns
returns c = modifier_slot
