use Rattle.std.proofs.Common.{ℕ, ◌<◌, get_or}
use Rattle.timefd_lint_scan.specs.Between.{IsInside}
use Rattle.timefd_lint_scan.proofs.between.are_inside.Given as goal

abbrev pub invariant-loop-at : goal.invariant-loop-at
invariant-loop-at l = (k : ℕ) → k < l.at → IsInside l.piece (get_or l.positions k 0)
