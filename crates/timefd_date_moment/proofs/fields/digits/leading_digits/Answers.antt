use Rattle.std.proofs.Common.{◌<◌, arith}
use Rattle.timefd_date_moment.proofs.FieldsLemmas.DigitLemmas.{all_small, next_small, next_value}
use Rattle.timefd_date_moment.proofs.fields.digits.leading_digits.Goals as goal

pub overflow_mul-value : goal.overflow_mul-value
overflow_mul-value c =
    let l = c.digits in
    let small : l.value < 100000000000000000000000 =
    all_small l.value l.count l.invariant.small (omega (arith, l.invariant.within, l.invariant.few)) in
    omega (arith, small)

pub overflow_add-value : goal.overflow_add-value
overflow_add-value c =
    let l = c.digits in
    let small : l.value < 100000000000000000000000 =
    all_small l.value l.count l.invariant.small (omega (arith, l.invariant.within, l.invariant.few)) in
    omega (arith, small, c.in-Some.ensures.2)

pub digits-preserved : goal.digits-preserved
digits-preserved c =
    let l = c.digits in
    let digit = c.in-Some.ensures in
    record {
      within = omega arith;
      few = l.invariant.few;
      left = omega (arith, l.invariant.left, digit.3);
      value = next_value c.args.text.now l.value c.in-Some.digit l.count digit.0 l.invariant.value digit.1;
      small = next_small l.value c.in-Some.digit l.count l.invariant.small digit.2;
    }

pub returns-in-None-clause-small : goal.returns-in-None-clause-small
returns-in-None-clause-small c =
    let l = c.digits in
    all_small l.value l.count l.invariant.small (omega (arith, l.invariant.within, l.invariant.few))

pub returns-clause-small : goal.returns-clause-small
returns-clause-small c =
    let l = c.digits in
    all_small l.value l.count l.invariant.small (omega (arith, l.invariant.within, l.invariant.few))
