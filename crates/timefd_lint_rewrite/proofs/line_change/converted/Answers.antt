use Rattle.timefd_lint_rewrite.proofs.LineChangeLemmas.{of_refusal}
use Rattle.timefd_lint_rewrite.proofs.line_change.converted.Goals as goal

pub returns-in-Err-Refused-clause-refused : goal.returns-in-Err-Refused-clause-refused
returns-in-Err-Refused-clause-refused c = λ _.
    of_refusal c.args.dialect c.args.text.now c.in-Err-Refused._refusal
    (rw c.in-Err-Refused.field-0-is at c.in-Err-Refused.ensures.fault)
