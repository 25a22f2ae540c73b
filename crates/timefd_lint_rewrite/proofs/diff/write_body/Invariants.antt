use Rattle.std.proofs.Common.{◌≤◌, ◌-◌, [], drop, take}
use Rattle.timefd_lint_rewrite.specs.Diffs.{body, lines_of}
use Rattle.timefd_lint_rewrite.proofs.DiffLemmas.{Leaves}
use Rattle.timefd_lint_rewrite.proofs.diff.write_body.Given as goal

-- The replacements of the last lines are left, and then the other lines.
abbrev pub invariant-lines : goal.invariant-lines
invariant-lines g l =
    (l.from ≤ l.at)
    × Leaves (body [] (lines_of l.pairs))
    (body (lines_of (take (l.at - l.from) (drop l.from l.pairs))) (lines_of (drop l.at l.pairs)))
    (g.W.Write.contents l.fn.writer) (g.W.Write.contents l.writer)
