use Rattle.std.proofs.Common.{◌∙◌, [], arith, refl, sym}
use Rattle.timefd_lint_rewrite.proofs.DiffLemmas.{none_follows, none_left, one_changes, one_more, one_stays}
use Rattle.timefd_lint_rewrite.proofs.diff.write_body.Goals as goal

pub lines-preserved-then-branch : goal.lines-preserved-then-branch
lines-preserved-then-branch g c = (
  omega (arith, c.lines.invariant.0),
  one_more _ _ _ _ _ _ _
      (one_changes c.args.pairs.now c.lines.from c.lines.at _ c.lines.invariant.0
      (omega (arith, c.lines-test.true)) (sym c.in_ok-write_next.ensures.is ∙ c.if-branch.true))
      c.lines.invariant.1 c.in_ok-write_next.ensures.written,
)

pub lines-preserved : goal.lines-preserved
lines-preserved g c = (
  omega arith,
  one_more _ _ _ _ _ _ _
      (one_stays c.args.pairs.now c.lines.from c.lines.at _ (omega (arith, c.lines-test.true))
      (sym c.in_ok-write_next.ensures.is ∙ c.if-branch.false))
      c.lines.invariant.1 c.in_ok-write_next.ensures.written,
)

pub returns : goal.returns
returns g c =
    none_left _ [] _ _ refl
    (one_more _ _ _ [] _ _ _
    (none_follows c.args.pairs.now c.lines.from c.lines.at
    (omega (arith, c.lines-test.false, c.lines.auto.at-end))) c.lines.invariant.1
    c.in_ok-write_added.ensures)
