use Rattle.std.proofs.Common.{◌∙◌, Option, sym, subst}
use Rattle.timefd_language.specs.declared.description_version.Language.{Language}
use Rattle.timefd_c.specs.Answers.{HasFault}
use Rattle.timefd_c.proofs.diagnose.timefd_diagnose.Goals as goal

pub returns-then-answer-eq-REFUSED-clause-diagnosed :
    goal.returns-then-answer-eq-REFUSED-clause-diagnosed
returns-then-answer-eq-REFUSED-clause-diagnosed c =
    λ l is f has. c.fault_in.ensures l (c.from_number.ensures ∙ is) f has

-- A text with a fault is refused.
pub returns-else-answer-eq-REFUSED-clause-diagnosed :
    goal.returns-else-answer-eq-REFUSED-clause-diagnosed
returns-else-answer-eq-REFUSED-clause-diagnosed c =
    λ l is f has. absurd (c.if-answer-eq-REFUSED.false
    (c.timefd_check-answer.ensures.judges.answers.faulty f
    (subst (λ (o : Option Language). HasFault o c.args.text.now f) (sym is) has)).0)
