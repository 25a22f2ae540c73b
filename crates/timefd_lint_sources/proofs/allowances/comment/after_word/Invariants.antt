use Rattle.std.proofs.Common.{◌≡◌, length}
use Rattle.timefd_lint_sources.specs.Allowances.Comments as spec
use Rattle.timefd_lint_sources.proofs.allowances.comment.after_word.Given as goal

-- The answer for the rest is the answer for everything.
abbrev pub invariant-bytes : goal.invariant-bytes
invariant-bytes l = spec.after_word l.left ≡ spec.after_word l.fn.text

abbrev pub decreases-bytes : goal.decreases-bytes
decreases-bytes l = length l.left
