use Rattle.timefd_format.specs.PlainCells.{IsAhead}
use Rattle.timefd_format.proofs.fast.plain_cell.plain_cell.Given as goal

-- The field that is looked for is one of those that are left.
abbrev pub invariant-fields : goal.invariant-fields
invariant-fields l = IsAhead l.content l.fn.count l.text l.left

abbrev pub decreases-fields : goal.decreases-fields
decreases-fields l = l.left
