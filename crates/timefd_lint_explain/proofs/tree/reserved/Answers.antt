use Rattle.std.proofs.Common.{subst}
use Rattle.timefd_parse.specs.BorrowedFaults.{IsMemory}
use Rattle.timefd_lint_explain.proofs.tree.reserved.Goals as goal

-- A text that is spelled has no fault.
pub returns-in-Err-Invalid : goal.returns-in-Err-Invalid
returns-in-Err-Invalid c = λ list s.
    absurd (subst IsMemory c.in-Err-Invalid.field-0-is
    (c.in-Err-Invalid.ensures.spelled list s))
