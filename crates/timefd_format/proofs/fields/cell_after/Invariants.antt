use Rattle.std.proofs.Common.{ℕ, suc, Option, Some, None, length}
use denote.Ref.{Bor}
use Rattle.timefd_format.proofs.FieldLemmas.{IsLeft, left_len}
use Rattle.timefd_format.proofs.fields.cell_after.Given as goal
use Rattle.timefd_lang_component.specs.Tree.{Text}

-- The field that is looked for is one of those that are left.
abbrev pub invariant-fields : goal.invariant-fields
invariant-fields l = IsLeft l.content l.fn.count l.more l.left

abbrev pub decreases-fields : goal.decreases-fields
decreases-fields l = left_len l.more
