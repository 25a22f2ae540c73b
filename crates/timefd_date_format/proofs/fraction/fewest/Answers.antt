use Rattle.std.proofs.Common.{◌≡◌, ◌∙◌, ◌-◌, ◌+◌, take, sym, ap, arith, subst}
use Rattle.timefd_date_format.proofs.FractionLemmas.{fewer, no_fewer}
use Rattle.timefd_date_format.proofs.fraction.fewest.Goals as goal
use Rattle.timefd_lang_component.specs.Texts.{at_least_one, trimmed}

pub zeros-preserved : goal.zeros-preserved
zeros-preserved c =
    let z = c.zeros in
    let last : z.len - 1 + 1 ≡ z.len = omega (arith, c.zeros-test.true) in
    let less = fewer c.args.nine.now (z.len - 1) (omega (arith, z.invariant.1, z.invariant.2, c.zeros-test.true))
    c.if-nine-len-eq48.true in (
      omega (arith, c.zeros-test.true),
      omega (arith, z.invariant.1),
      z.invariant.2,
      sym less ∙ ap (λ n. trimmed (take n c.args.nine.now)) last ∙ z.invariant.3,
    )

pub returns-else-nine-len-eq48-clause-digits : goal.returns-else-nine-len-eq48-clause-digits
returns-else-nine-len-eq48-clause-digits c =
    let z = c.zeros in
    let last : z.len - 1 + 1 ≡ z.len = omega (arith, c.zeros-test.true) in
    let kept = no_fewer c.args.nine.now (z.len - 1)
    (omega (arith, z.invariant.1, z.invariant.2, c.zeros-test.true)) c.if-nine-len-eq48.false in
    sym (subst (λ n. at_least_one (trimmed (take n c.args.nine.now)) ≡ take n c.args.nine.now) last kept)
    ∙ ap at_least_one z.invariant.3
