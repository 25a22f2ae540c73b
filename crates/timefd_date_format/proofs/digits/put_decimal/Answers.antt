use Rattle.std.proofs.Common.{◌^◌, ◌<◌, ℕ, sym, subst, arith}
use Rattle.timefd_date_format.specs.Puts.{Puts}
use Rattle.std.specs.Fmt.{decimal}
use Rattle.timefd_date_format.proofs.DigitLemmas.{no_room, two_put}
use Rattle.timefd_date_format.proofs.digits.put_decimal.Goals as goal

wide : (n : ℕ) → n < 2 ^ 128 → n < 10 ^ 64
wide n h = omega (arith, h)

pub returns-in_err-at : goal.returns-in_err-at
returns-in_err-at c =
    let l = c.pairs in
    subst (λ r. Puts (decimal c.args.number) c.args.buffer.now c.args.end c.put.new.buffer r)
    (sym c.from_residual.ensures)
    (no_room c.args.number l.left c.pair.result.now c.args.buffer.now l.buffer c.put.new.buffer c.args.end l.at (omega (arith, c.pairs-test.true))
    (wide l.left l.auto.left-fits.fits) l.invariant c.pair.ensures c.in_err-at.ensures)

pub pairs-preserved : goal.pairs-preserved
pairs-preserved c =
    let l = c.pairs in
    two_put c.args.number l.left c.pair.result.now c.args.buffer.now l.buffer c.put.new.buffer c.args.end l.at c.in_ok-at.at
    (omega (arith, c.pairs-test.true)) (wide l.left l.auto.left-fits.fits) l.invariant c.pair.ensures c.in_ok-at.ensures
