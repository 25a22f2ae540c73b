use Rattle.timefd_lint_drawing.proofs.FindingLemmas.{then}
use Rattle.timefd_lint_drawing.proofs.sarif.fix.Goals as goal

pub returns : goal.returns
returns c =
    let all =
    then _ _ _ _ c.in_ok-extend_from_slice-2.ensures.items (then _ _ _ _ c.in_ok-push_text-2.ensures (then _ _ _ _
    c.in_ok-push_number-4.ensures (then _ _ _ _ c.in_ok-push_number-3.ensures (then _ _ _ _
    c.in_ok-push_number-2.ensures (then _ _ _ _ c.in_ok-push_number.ensures (then _ _ _ _
    c.in_ok-extend_from_slice.ensures.items (then _ _ _ _ c.in_ok-push_uri.ensures (then _ _ _ _
    c.in_ok-push_text.ensures c.new-out.ensures.items))))))))
    in all
