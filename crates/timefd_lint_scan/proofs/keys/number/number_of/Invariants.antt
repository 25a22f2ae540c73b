use Rattle.std.proofs.Common.{◌≡◌, ◌≤◌, length}
use Rattle.std.specs.Prelude.{MatchOption, Some, ⊤}
use Rattle.timefd_lint_scan.specs.Keys.Escapes.{number}
use Rattle.timefd_lint_scan.proofs.keys.number.number_of.Given as goal

-- The answer for the rest is the answer for everything.
abbrev pub invariant-digits : goal.invariant-digits
invariant-digits l = record {
  number : number l.left l.value l.rest ≡ number l.fn.count (Some 0) l.fn.text;
  small : MatchOption l.value ⊤ (λ value. value ≤ 1114111);
  within : length l.rest ≤ length l.fn.text;
}

abbrev pub decreases-digits : goal.decreases-digits
decreases-digits l = l.left
