use Rattle.std.proofs.Common.{◌≡◌, ◌++◌, length}
use Rattle.timefd_lint_sources.specs.Remarks as spec
use Rattle.timefd_lint_sources.proofs.remark.push_values.Given as goal

-- The items so far, followed by those of the rest, are all items.
abbrev pub invariant-values : goal.invariant-values
invariant-values l = l.remarks.items ++ spec.on_values l.rest ≡ l.fn.remarks.items ++ spec.on_values l.fn.values

abbrev pub decreases-values : goal.decreases-values
decreases-values l = length l.rest
