use Rattle.std.proofs.Common.{◌≡◌, ◌≤◌, length}
use Rattle.timefd_lint_scan.specs.After.{after_raw}
use Rattle.timefd_lint_scan.proofs.string.after_raw.Given as goal

-- The answer for the rest is the answer for everything.
abbrev pub invariant-bytes : goal.invariant-bytes
invariant-bytes l = record {
  rest : after_raw l.hash_count l.rest ≡ after_raw l.hash_count l.fn.text;
  within : length l.rest ≤ length l.fn.text;
}

abbrev pub decreases-bytes : goal.decreases-bytes
decreases-bytes l = length l.rest
