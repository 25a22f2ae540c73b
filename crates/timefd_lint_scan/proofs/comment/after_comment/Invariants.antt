use Rattle.std.proofs.Common.{◌≡◌, ◌≤◌, ◌+◌, length}
use Rattle.timefd_lint_scan.specs.After.{after_comment}
use Rattle.timefd_lint_scan.proofs.comment.after_comment.Given as goal

-- The answer for the rest is the answer for everything.
abbrev pub invariant-bytes : goal.invariant-bytes
invariant-bytes l = record {
  rest : after_comment l.depth l.before l.rest ≡ after_comment 0 0 l.fn.text;
  within : l.depth + length l.rest ≤ length l.fn.text;
}

abbrev pub decreases-bytes : goal.decreases-bytes
decreases-bytes l = length l.rest
