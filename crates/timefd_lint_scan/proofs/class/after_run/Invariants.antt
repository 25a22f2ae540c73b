use Rattle.std.proofs.Common.{◌≡◌, ◌≤◌, length}
use Rattle.timefd_lint_scan.specs.Bytes.{class_test}
use Rattle.timefd_lint_scan.specs.After.{after_run}
use Rattle.timefd_lint_scan.proofs.class.after_run.Given as goal

-- The answer for the rest is the answer for everything.
abbrev pub invariant-bytes : goal.invariant-bytes
invariant-bytes l = record {
  rest : after_run (class_test l.class) l.rest ≡ after_run (class_test l.class) l.fn.text;
  within : length l.rest ≤ length l.fn.text;
}

abbrev pub decreases-bytes : goal.decreases-bytes
decreases-bytes l = length l.rest
