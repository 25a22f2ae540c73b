use Rattle.std.proofs.Common.{◌≡◌, ◌≤◌, length}
use Rattle.std.specs.Prelude.{if◌then◌else◌}
use Rattle.timefd_lint_scan.specs.After.{after_string, after_escape}
use Rattle.timefd_lint_scan.proofs.string.after_string.Given as goal

-- The answer for the rest is the answer for everything.
abbrev pub invariant-bytes : goal.invariant-bytes
invariant-bytes l = record {
  rest : (if l.is_escaped then after_escape l.rest else after_string l.rest) ≡ after_string l.fn.text;
  within : length l.rest ≤ length l.fn.text;
}

abbrev pub decreases-bytes : goal.decreases-bytes
decreases-bytes l = length l.rest
