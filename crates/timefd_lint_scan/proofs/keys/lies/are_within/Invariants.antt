use Rattle.std.proofs.Common.{ℕ, ◌<◌, get_or}
use Rattle.timefd_lint_scan.specs.Keys.Found.{IsWithin}
use Rattle.timefd_lint_scan.proofs.keys.lies.are_within.Given as goal

abbrev pub invariant-loop-at : goal.invariant-loop-at
invariant-loop-at l = (k : ℕ) → k < l.at → IsWithin l.start l.closing (get_or l.positions k 0)
