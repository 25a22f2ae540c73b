use Rattle.std.proofs.Common.{◌-◌, length}
use Rattle.timefd_lint_rewrite.specs.Diffs.{hunks_from, lines_of}
use Rattle.timefd_lint_rewrite.proofs.DiffLemmas.{Leaves}
use Rattle.timefd_lint_rewrite.proofs.diff.write_hunks.Given as goal

-- The hunks of the other lines are left.
abbrev pub invariant-lines : goal.invariant-lines
invariant-lines g l =
    Leaves (hunks_from (lines_of l.pairs) (length l.pairs) 0)
    (hunks_from (lines_of l.pairs) (length l.pairs - l.at) l.at) (g.W.Write.contents l.fn.writer)
    (g.W.Write.contents l.writer)
