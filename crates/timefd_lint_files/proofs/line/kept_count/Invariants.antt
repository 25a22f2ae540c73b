use Rattle.timefd_lint_files.proofs.LineLemmas.{IsLeft}
use Rattle.timefd_lint_files.proofs.line.kept_count.Given as goal

abbrev pub invariant-loop-at : goal.invariant-loop-at
invariant-loop-at l = IsLeft l.fn.line l.kept l.is_quoted l.at
