use Rattle.timefd_lint_diagnosis.proofs.FewLemmas.{none_off, one_off}
use Rattle.timefd_lint_diagnosis.proofs.few.first_of.Goals as goal

pub returns-in-Some : goal.returns-in-Some
returns-in-Some c = (
  one_off c.args.text.now _ _ c.as_str.result.now c.in-Some.first c.utf8.text c.chars-left.ensures.rest
      c.in-Some.ensures.steps.0 c.as_str.ensures,
  c.as_str.utf8,
)

pub returns-in-None : goal.returns-in-None
returns-in-None c =
    none_off c.args.text.now _ c.chars-left.ensures.rest c.in-None.ensures.steps.0.0
