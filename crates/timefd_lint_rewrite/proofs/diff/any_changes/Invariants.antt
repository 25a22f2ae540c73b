use Rattle.std.proofs.Common.{◌≡◌, length}
use Rattle.std.specs.List.{list_any}
use Rattle.timefd_lint_rewrite.specs.Diffs.{changes, lines_of}
use Rattle.timefd_lint_rewrite.proofs.diff.any_changes.Given as goal

-- The answer for the rest is the answer for everything.
abbrev pub invariant-pairs : goal.invariant-pairs
invariant-pairs l = list_any changes (lines_of l.rest) ≡ list_any changes (lines_of l.fn.pairs)

abbrev pub decreases-pairs : goal.decreases-pairs
decreases-pairs l = length l.rest
