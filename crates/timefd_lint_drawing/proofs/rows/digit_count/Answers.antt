use Rattle.std.proofs.Common.{ℕ, ◌≡◌, ◌∙◌, ◌+◌, ◌<◌, ◌≤◌, ◌/◌, ◌^◌, length, ap, arith, length-append}
use Rattle.std.proofs.lemmas.Fmt.{decimal_digit, decimal_step, length-decimal-le}
use Rattle.std.specs.Fmt.{decimal}
use Rattle.timefd_lint_drawing.proofs.rows.digit_count.Goals as goal

-- The last digit follows the others.
one_longer : (n : ℕ) → 10 ≤ n → n < 2 ^ 64 → length (decimal n) ≡ length (decimal (n / 10)) + 1
one_longer n long small = ap length (decimal_step n long small) ∙ length-append _ _

pub overflow_add-count : goal.overflow_add-count
overflow_add-count c =
    let l = c.loop-left in
    let most : length (decimal c.args.number) ≤ 20 =
    length-decimal-le 20 c.args.number (omega arith) (omega arith) c.ranges.number.fits in
    omega (arith, l.invariant.0, most)

pub loop-left-preserved : goal.loop-left-preserved
loop-left-preserved c =
    let l = c.loop-left in
    let longer = one_longer l.left c.loop-left-test.true l.auto.left-fits.fits in
    (omega (arith, longer, l.invariant.0), omega arith)

pub returns : goal.returns
returns c =
    let l = c.loop-left in
    omega (arith, l.invariant.0, ap length (decimal_digit l.left c.loop-left-test.false))
