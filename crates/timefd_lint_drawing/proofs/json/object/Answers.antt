use Rattle.std.proofs.Common.{ap, codes}
use Rattle.timefd_lint_drawing.specs.Json.{further_field, text_field}
use Rattle.timefd_lint_drawing.proofs.FindingLemmas.{then, then_as}
use Rattle.timefd_lint_drawing.proofs.json.object.Goals as goal

pub returns : goal.returns
returns c =
    let all =
    then _ _ _ _ c.in_ok-extend_from_slice.ensures.items (then _ _ _ _ c.in_ok-push_start.ensures (then_as _ _ _ _ _
    c.in_ok-push_text-4.ensures (then _ _ _ _ c.in_ok-push_if_any-2.ensures (then _ _ _ _ c.in_ok-push_text-3.ensures
    (then _ _ _ _ c.in_ok-push_number-2.ensures (then _ _ _ _ c.in_ok-push_if_any.ensures (then_as _ _ _ _ _
    c.in_ok-push_further.ensures (then _ _ _ _ c.in_ok-push_text-2.ensures (then _ _ _ _ c.in_ok-push_end.ensures (then
    _ _ _ _ c.in_ok-push_number.ensures (then _ _ _ _ c.in_ok-push_text.ensures c.in_ok-out.ensures.items)))) (ap
    further_field c.is_further.ensures)))))) (ap (λ word. text_field (codes ",\"severity\":") word) c.word.ensures)))
    in all
