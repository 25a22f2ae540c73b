use Rattle.std.proofs.Common.{rules, arith, sym, ◌∙◌}
use Rattle.std.proofs.lemmas.Grind.{common_steps}
use Rattle.std.proofs.lemmas.Slice.Eq.{bytes_eq-Decides}
use Rattle.timefd_lint_scan.proofs.WrittenLemmas.{read_back}
use Rattle.timefd_lint_scan.proofs.alike.is_body_for.Goals as goal

pub returns-in-Some : goal.returns-in-Some
returns-in-Some c = λ same.
    read_back c.args.kind c.args.text.now c.args.body.now c.in_ok-unescaped.field-0 c.in-Some.unescaped
    (first_of (search rules, cc, grind (arith, common_steps))) c.in_ok-unescaped.ensures c.in-Some.is
    (sym c.as_slice.ensures.value
    ∙ (bytes_eq-Decides c.as_slice.result.now c.args.text.now).0 (sym c.eq.ensures ∙ same))
