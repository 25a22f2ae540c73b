use Rattle.std.proofs.Common.{◌≡◌, ◌-◌, length}
use Rattle.timefd_lint_rewrite.specs.Diffs.{end_from, lines_of}
use Rattle.timefd_lint_rewrite.proofs.diff.end_from.Given as goal

-- The answer from this line on is the answer.
abbrev pub invariant-lines : goal.invariant-lines
invariant-lines l =
    end_from (lines_of l.pairs) (length l.pairs - l.at) l.at
    ≡ end_from (lines_of l.pairs) (length l.pairs - l.from) l.from
