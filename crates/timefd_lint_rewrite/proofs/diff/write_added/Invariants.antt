use Rattle.std.proofs.Common.{length}
use Rattle.timefd_lint_rewrite.specs.Diffs.{added, lines_of}
use Rattle.timefd_lint_rewrite.proofs.DiffLemmas.{Leaves}
use Rattle.timefd_lint_rewrite.proofs.diff.write_added.Given as goal

-- The replacements of the rest are left.
abbrev pub invariant-pairs : goal.invariant-pairs
invariant-pairs g l =
    Leaves (added (lines_of l.fn.pairs)) (added (lines_of l.rest)) (g.W.Write.contents l.fn.writer)
    (g.W.Write.contents l.writer)

abbrev pub decreases-pairs : goal.decreases-pairs
decreases-pairs g l = length l.rest
