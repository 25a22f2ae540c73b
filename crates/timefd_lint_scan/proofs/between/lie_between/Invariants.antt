use Rattle.std.proofs.Common.{ℕ, ◌≡◌, ◌<◌, false, get_or}
use Rattle.std.specs.Str.{IsCharBoundary}
use Rattle.timefd_lint_scan.specs.Bytes.{is_continuation}
use Rattle.timefd_lint_scan.proofs.between.lie_between.Given as goal

abbrev pub invariant-loop-at : goal.invariant-loop-at
invariant-loop-at l = (k : ℕ) → k < l.at → is_continuation (get_or l.text k 0) ≡ false
    → IsCharBoundary l.source (get_or l.positions k 0)
