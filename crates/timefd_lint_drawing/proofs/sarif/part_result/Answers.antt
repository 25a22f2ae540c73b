use Rattle.std.proofs.Common.{◌∙◌, ap}
use Rattle.timefd_lint_drawing.specs.Sarif.{further_field}
use Rattle.timefd_lint_drawing.proofs.FindingLemmas.{then, then_as}
use Rattle.timefd_lint_drawing.proofs.sarif.part_result.Goals as goal

pub returns : goal.returns
returns c =
    let all =
    then _ _ _ _ c.in_ok-extend_from_slice-3.ensures.items (then_as _ _ _ _ _ c.in_ok-push_further.ensures (then_as _ _
    _ _ _ c.in_ok-extend_from_slice-2.ensures.items (then _ _ _ _ c.in_ok-extend_from_slice.ensures.items (then _ _ _ _
    c.in_ok-push_number-2.ensures (then _ _ _ _ c.in_ok-push_number.ensures c.in_ok-out.ensures)))
    (c.deref.ensures.value ∙ c.in_ok-fixes.ensures)) (ap further_field c.is_further.ensures))
    in all
