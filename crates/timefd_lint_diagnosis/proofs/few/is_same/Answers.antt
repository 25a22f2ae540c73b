use Rattle.std.proofs.Common.{◌∙◌}
use Rattle.timefd_lint_diagnosis.proofs.FewLemmas.{same_text}
use Rattle.timefd_lint_diagnosis.proofs.few.is_same.Goals as goal

pub returns-clause-no : goal.returns-clause-no
returns-clause-no c = λ same.
    c.eq.ensures ∙ same_text c.args.text.now c.args.other.now c.utf8.text c.utf8.other same
