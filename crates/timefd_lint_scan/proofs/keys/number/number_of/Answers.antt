use Rattle.std.proofs.Common.{◌-◌, ◌∙◌, length, get_or, take, drop, rules, arith, ap, Some}
use Rattle.std.proofs.lemmas.Grind.{common_steps}
use Rattle.timefd_lint_scan.proofs.FirstLemmas.{split}
use Rattle.timefd_lint_scan.specs.Escapes.{next_value}
use Rattle.timefd_lint_scan.specs.Keys.Escapes.{number}
use Rattle.timefd_lint_scan.proofs.KeysLemmas.NumberLemmas.{one_digit}
use Rattle.timefd_lint_scan.proofs.keys.number.number_of.Goals as goal

pub digits-preserved : goal.digits-preserved
digits-preserved c = record {
  number = one_digit c.digits.left c.digits.value c.next_value-value.result (get_or c.digits.rest.now 0 0)
      (take (length c.digits.rest.now - 1) (drop 1 c.digits.rest.now)) c.digits.rest.now
      (number c.args.count (Some 0) c.args.text.now)
      (first_of (omega arith, omega (arith, c.digits-test.true)))
      (split c.digits.rest.now (omega (arith, c.in-len1-up.len_at_least)))
      (c.next_value-value.ensures.value ∙ ap (next_value c.digits.value) c.hex_digit.ensures.value)
      c.digits.invariant.number;
  small = c.next_value-value.ensures.small;
  within = first_of (search rules, omega arith, grind (arith, common_steps));
}
