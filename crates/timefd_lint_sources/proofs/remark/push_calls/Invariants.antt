use Rattle.std.proofs.Common.{◌≡◌, ◌++◌, length}
use Rattle.timefd_lint_sources.specs.Remarks as spec
use Rattle.timefd_lint_sources.proofs.remark.push_calls.Given as goal

-- The items so far, followed by those of the rest, are all items.
abbrev pub invariant-calls : goal.invariant-calls
invariant-calls l = l.remarks.items ++ spec.on_calls l.rest ≡ l.fn.remarks.items ++ spec.on_calls l.fn.calls

abbrev pub decreases-calls : goal.decreases-calls
decreases-calls l = length l.rest
