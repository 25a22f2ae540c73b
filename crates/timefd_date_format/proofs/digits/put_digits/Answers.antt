use Rattle.std.proofs.Common.{◌∙◌, ◌^◌, ◌<◌, ℕ, sym, subst, arith}
use Rattle.timefd_date_format.specs.Puts.{Puts}
use Rattle.std.specs.Fmt.{decimal}
use Rattle.std.proofs.lemmas.Fmt.{decimal_digit}
use Rattle.timefd_date_format.proofs.DigitLemmas.{all_put, no_room, two_digits, two_put}
use Rattle.timefd_date_format.proofs.digits.put_digits.Goals as goal

wide : (n : ℕ) → n < 2 ^ 64 → n < 10 ^ 64
wide n h = omega (arith, h)

pub returns-in_err-at : goal.returns-in_err-at
returns-in_err-at c =
    let l = c.pairs in
    subst (λ r. Puts (decimal c.args.number) c.args.buffer.now c.args.end c.put.new.buffer r)
    (sym c.from_residual.ensures)
    (no_room c.args.number l.left c.pair.result.now c.args.buffer.now l.buffer c.put.new.buffer c.args.end l.at c.pairs-test.true
    (wide l.left l.auto.left-fits.fits) l.invariant c.pair.ensures c.in_err-at.ensures)

pub pairs-preserved : goal.pairs-preserved
pairs-preserved c =
    let l = c.pairs in
    two_put c.args.number l.left c.pair.result.now c.args.buffer.now l.buffer c.put.new.buffer c.args.end l.at c.in_ok-at.at
    c.pairs-test.true (wide l.left l.auto.left-fits.fits) l.invariant c.pair.ensures c.in_ok-at.ensures

pub returns-then-left-ge10 : goal.returns-then-left-ge10
returns-then-left-ge10 c =
    let l = c.pairs in
    all_put c.args.number l.left c.pair-then-left-ge10.result.now c.args.buffer.now l.buffer
    c.put-then-left-ge10.new.buffer c.args.end l.at c.put-then-left-ge10.result l.invariant
    (two_digits l.left c.if-left-ge10.true c.pairs-test.false ∙ sym c.pair-then-left-ge10.ensures)
    c.put-then-left-ge10.ensures

pub returns-else-left-ge10 : goal.returns-else-left-ge10
returns-else-left-ge10 c =
    let l = c.pairs in
    all_put c.args.number l.left _ c.args.buffer.now l.buffer c.put-else-left-ge10.new.buffer c.args.end l.at
    c.put-else-left-ge10.result l.invariant (decimal_digit l.left c.if-left-ge10.false) c.put-else-left-ge10.ensures
