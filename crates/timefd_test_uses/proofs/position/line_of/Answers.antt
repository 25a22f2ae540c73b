use Rattle.std.proofs.Common.{◌∙◌, ap, refl}
use Rattle.std.proofs.lemmas.Iterator.Splits.{YieldsList-from_lines}
use Rattle.std.proofs.lemmas.Iterator.Consumers.{nth_from_yields_List}
use Rattle.std.specs.Str.Lines.{lines}
use Rattle.timefd_test_uses.proofs.LineLemmas.{line_or_none}
use Rattle.timefd_test_uses.proofs.position.line_of.Goals as goal

pub returns : goal.returns
returns c =
    let all = YieldsList-from_lines c.args.text.now c.lines.ensures.rest in
    let found = nth_from_yields_List c.nth.result c.nth.new.self c.args.number c.nth.ensures.ran all in
    ap (λ x. x.now) c.unwrap_or.ensures ∙ line_or_none (lines c.args.text.now) c.args.number
    c.nth.result _ found refl
