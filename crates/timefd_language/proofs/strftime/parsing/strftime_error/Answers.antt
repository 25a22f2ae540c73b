use Rattle.timefd_language.proofs.DirectiveLemmas.DirectiveLemmas.{is_invalid, borrowed_strftime, borrowed_strftime_refused, borrowed_strftime_spelled, one, spanned_strftime}
use Rattle.timefd_language.proofs.strftime.parsing.strftime_error.Goals as goal

pub returns-in-Ok-clause-refused : goal.returns-in-Ok-clause-refused
returns-in-Ok-clause-refused c = λ f has.
    let found = c.in-Ok.ensures.found in
    absurd ((one c.args.text.now).not_both found.0 f found.1 has)

pub returns-in-Err-clause-spelled : goal.returns-in-Err-clause-spelled
returns-in-Err-clause-spelled c = λ list spelled.
    absurd ((one c.args.text.now).not_both list _ spelled c.in-Err.ensures.fault)

pub returns-in-Err-clause-refused : goal.returns-in-Err-clause-refused
returns-in-Err-clause-refused c = λ f has.
    (one c.args.text.now).one_fault _ f c.in-Err.ensures.fault has

pub returns-in_default-clause-fault : goal.returns-in_default-clause-fault
returns-in_default-clause-fault c = borrowed_strftime _ _ _ c.requires c.borrowed.ensures.borrows

pub returns-in_default-clause-spelled : goal.returns-in_default-clause-spelled
returns-in_default-clause-spelled c = λ list s. borrowed_strftime_spelled _ _ _ list c.requires c.borrowed.ensures.borrows s

pub returns-in_default-clause-refused : goal.returns-in_default-clause-refused
returns-in_default-clause-refused c = λ f h. borrowed_strftime_refused _ _ _ f c.requires
    (is_invalid _ c.in_default.not-Memory) c.borrowed.ensures.borrows h

pub returns-in_default-clause-span : goal.returns-in_default-clause-span
returns-in_default-clause-span c = spanned_strftime _ _ _ c.requires c.borrowed.ensures.span
