use Rattle.std.proofs.Common.{◌-◌, refl}
use Rattle.timefd_lint_sources.specs.Rewriting.Aside.{IsConvertedWithin, IsSetAside}
use Rattle.timefd_lint_sources.proofs.RewritingLemmas.AsideLemmas.{in_answer, one_more}
use Rattle.timefd_lint_sources.proofs.rewriting.aside.+aside.Goals as goal

pub converted_within-returns : goal.converted_within-returns
converted_within-returns t c =
    in_answer
    (IsSetAside (IsConvertedWithin (c.args.most - 1) c.args.version c.args.layout) (c.args.most - 1) c.args.version
    c.args.layout c.args.text.now)
    (IsConvertedWithin c.args.most c.args.version c.args.layout c.args.text.now) c.one_set_aside.result
    (λ answer is. one_more c.args.most (c.args.most - 1) c.args.version c.args.layout c.args.text.now answer
    c.if-most-eq0.false refl is) c.one_set_aside.ensures
