use Rattle.std.proofs.Common.{length}
use Rattle.timefd_lint_rewrite.specs.Diffs.{AreUpTo, lines_of}
use Rattle.timefd_lint_rewrite.proofs.pairs.pairs_of.Given as goal

-- The lines so far stand side by side.
abbrev pub invariant-lines : goal.invariant-lines
invariant-lines l = AreUpTo l.fn.old l.fn.new (lines_of l.pairs.items) l.old_rest l.new_rest

abbrev pub decreases-lines : goal.decreases-lines
decreases-lines l = length l.old_rest
