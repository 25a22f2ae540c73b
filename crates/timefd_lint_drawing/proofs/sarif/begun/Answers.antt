use Rattle.std.proofs.Common.{ap, codes}
use Rattle.timefd_lint_drawing.specs.Json.{text_field}
use Rattle.timefd_lint_drawing.proofs.FindingLemmas.{then, then_as}
use Rattle.timefd_lint_drawing.proofs.sarif.begun.Goals as goal

pub returns : goal.returns
returns c =
    let all =
    then _ _ _ _ c.in_ok-push_number-2.ensures (then _ _ _ _ c.in_ok-push_number.ensures (then _ _ _ _
    c.in_ok-push_uri.ensures (then _ _ _ _ c.in_ok-extend_from_slice.ensures.items (then _ _ _ _
    c.in_ok-push_text-3.ensures (then_as _ _ _ _ _ c.in_ok-push_text-2.ensures (then _ _ _ _ c.in_ok-push_text.ensures
    c.new-out.ensures.items) (ap (λ word. text_field (codes ",\"level\":") word) c.word.ensures))))))
    in all
