use Rattle.timefd_parse.proofs.ParseLemmas.{no_fault_in, borrowed_assigned, borrowed_spelled, borrowed_refused, spanned_version}
use Rattle.timefd_parse.proofs.counting.checked_again.Goals as goal

pub returns-in-Ok-clause-refused : goal.returns-in-Ok-clause-refused
returns-in-Ok-clause-refused c = λ f h. no_fault_in _ _ _ _ _ f c.in-Ok.ensures.count.1 h

pub returns-clause-fault : goal.returns-clause-fault
returns-clause-fault c = borrowed_assigned _ _ _ _ _ c.in-Err.ensures.count c.borrowed.ensures.borrows

pub returns-clause-spelled : goal.returns-clause-spelled
returns-clause-spelled c = λ list s. borrowed_spelled _ _ _ _ _ list c.in-Err.ensures.count
    c.borrowed.ensures.borrows s

pub returns-clause-refused : goal.returns-clause-refused
returns-clause-refused c = λ f h. borrowed_refused _ _ _ _ _ f c.in-Err.ensures.count
    c.in-Err.ensures.invalid c.borrowed.ensures.borrows h

pub returns-clause-span : goal.returns-clause-span
returns-clause-span c = spanned_version _ _ _ _ c.in-Err.ensures.span c.borrowed.ensures.span
