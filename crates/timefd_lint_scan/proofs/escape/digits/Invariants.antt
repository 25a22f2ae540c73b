use Rattle.std.proofs.Common.{◌≡◌, ◌≤◌, length}
use Rattle.std.specs.Prelude.{MatchOption, ⊤}
use Rattle.timefd_lint_scan.specs.Escapes.{digits}
use Rattle.timefd_lint_scan.proofs.escape.digits.Given as goal

-- The answer for the rest is the answer for everything.
abbrev pub invariant-bytes : goal.invariant-bytes
invariant-bytes l = record {
  part : digits l.value l.rest ≡ digits l.fn.first l.fn.text;
  small : MatchOption l.value ⊤ (λ value. value ≤ 1114111);
  within : length l.rest ≤ length l.fn.text;
}

abbrev pub decreases-bytes : goal.decreases-bytes
decreases-bytes l = length l.rest
