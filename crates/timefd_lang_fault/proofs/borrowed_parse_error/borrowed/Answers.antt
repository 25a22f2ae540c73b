use Rattle.std.proofs.Common.{sym, subst}
use Rattle.timefd_lang_fault.specs.BorrowedFaults.{Borrows, BorrowsSpan}
use Rattle.timefd_lang_fault.specs.declared.borrowed_parse_error.BorrowedParseError.TheVariants.{Invalid}
use Rattle.timefd_lang_fault.proofs.borrowed_parse_error.borrowed.Goals as goal

pub returns-in-Invalid-clause-borrows : goal.returns-in-Invalid-clause-borrows
returns-in-Invalid-clause-borrows c =
    subst (λ e. Borrows c.args.len e (Invalid c.of.result)) (sym c.in-Invalid.is) c.of.ensures.fault

pub returns-in-Invalid-clause-span : goal.returns-in-Invalid-clause-span
returns-in-Invalid-clause-span c =
    subst (λ e. BorrowsSpan c.args.len e (Invalid c.of.result)) (sym c.in-Invalid.is) c.of.ensures.borrowed
