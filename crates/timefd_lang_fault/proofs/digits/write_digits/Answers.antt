use Rattle.std.proofs.Common.{ℕ, ◌≡◌, ◌∙◌, ◌+◌, ◌-◌, ◌/◌, ◌%◌, ◌^◌, ◌<◌, ◌≤◌, length, ap, arith, append_assoc, append-nil, length-append}
use Rattle.std.proofs.lemmas.Fmt.{decimal_digit, decimal_nonempty, decimal_step, length-decimal-le}
use Rattle.std.proofs.lemmas.List.{drop-set, drop_all, length-set}
use Rattle.std.specs.Fmt.{decimal}
use Rattle.timefd_lang_fault.proofs.digits.write_digits.Goals as goal

-- the last digit follows some others
one_longer : (n : ℕ) → 10 ≤ n → n < 2 ^ 64
    → (length (decimal n) ≡ length (decimal (n / 10)) + 1) × (0 < length (decimal (n / 10)))
one_longer n long small = (
  ap length (decimal_step n long small) ∙ length-append _ _,
  decimal_nonempty (n / 10) (omega arith),
)

pub loop-left-init : goal.loop-left-init
loop-left-init c =
    let n = c.args.number in (
      length-decimal-le 20 n (omega arith) (omega arith) c.ranges.number.fits,
      omega arith,
      omega arith,
      rw (drop_all 20 c.args.bytes.now (omega arith), append-nil),
    )

pub overflow_sub-start-in-loop-left : goal.overflow_sub-start-in-loop-left
overflow_sub-start-in-loop-left c =
    let l = c.loop-left in
    omega (arith, l.invariant.0, one_longer l.left c.loop-left-test.true l.auto.left-fits.fits)

pub loop-left-preserved : goal.loop-left-preserved
loop-left-preserved c =
    let l = c.loop-left in
    let longer = one_longer l.left c.loop-left-test.true l.auto.left-fits.fits in
    let e : l.start - 1 + 1 ≡ l.start = omega arith in (
      omega arith,
      omega arith,
      omega (arith, length-set l.bytes l.start (48 + l.left % 10)),
      rw (e, drop-set l.bytes l.start _ (omega arith))
          (rw (decimal_step l.left c.loop-left-test.true l.auto.left-fits.fits, append_assoc)
          at l.invariant.3),
    )

pub returns-clause-written : goal.returns-clause-written
returns-clause-written c =
    let l = c.loop-left in
    rw (drop-set l.bytes l.start (48 + l.left) (omega arith))
    (rw (decimal_digit l.left c.loop-left-test.false) at l.invariant.3)
