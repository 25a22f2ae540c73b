use Rattle.std.proofs.Common.{◌≡◌, length}
use Rattle.timefd_lint_files.specs.Upwards.{after_slashes}
use Rattle.timefd_lint_files.proofs.front.after_slashes.Given as goal

-- The remaining text decides.
abbrev pub invariant-bytes : goal.invariant-bytes
invariant-bytes l = after_slashes l.left l.rest ≡ after_slashes l.fn.count l.fn.text

abbrev pub decreases-bytes : goal.decreases-bytes
decreases-bytes l = length l.rest
