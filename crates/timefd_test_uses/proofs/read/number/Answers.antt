use Rattle.std.proofs.Common.{arith}
use Rattle.timefd_test_uses.proofs.ReadLemmas.{no_sign, number_read}
use Rattle.timefd_test_uses.proofs.read.number.Goals as goal

pub returns-clause-value : goal.returns-clause-value
returns-clause-value c =
    let first = c.starts_with.ensures.byte (omega arith) (omega arith) (λ w o found. found) in
    number_read c.args.width c.args.text.now c.in_ok-digits.digits.now c.in_ok-digits.rest.now
    c.parse.result c.in_ok-value.value
    c.in_ok-digits.ensures.front c.in_ok-digits.ensures.back c.in_ok-digits.ensures.front_len
    (no_sign c.in_ok-digits.digits.now c.starts_with.result first c.if-starts_with.false)
    c.parse.ensures.value.0 c.in_ok-value.ensures.value
