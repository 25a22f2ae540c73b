use Rattle.std.proofs.Common.{◌≡◌, ◌++◌, length}
use Rattle.timefd_lint_sources.specs.Remarks as spec
use Rattle.timefd_lint_sources.proofs.remark.push_comments.Given as goal

-- The items so far, followed by those of the rest, are all items.
abbrev pub invariant-comments : goal.invariant-comments
invariant-comments l = l.remarks.items ++ spec.on_comments l.rest ≡ l.fn.remarks.items ++ spec.on_comments l.fn.comments

abbrev pub decreases-comments : goal.decreases-comments
decreases-comments l = length l.rest
