use Rattle.timefd_language.proofs.DirectiveLemmas.DirectiveLemmas.{is_invalid}
use Rattle.timefd_parse.proofs.ParseLemmas.{borrowed_assigned, borrowed_spelled, borrowed_refused, spanned_version}
use Rattle.timefd_parse.proofs.counting.error_of.Goals as goal

pub returns-in_default-clause-fault : goal.returns-in_default-clause-fault
returns-in_default-clause-fault c = borrowed_assigned _ _ _ _ _ c.requires c.borrowed.ensures.borrows

pub returns-in_default-clause-spelled : goal.returns-in_default-clause-spelled
returns-in_default-clause-spelled c = λ list s. borrowed_spelled _ _ _ _ _ list c.requires
    c.borrowed.ensures.borrows s

pub returns-in_default-clause-refused : goal.returns-in_default-clause-refused
returns-in_default-clause-refused c = λ f h. borrowed_refused _ _ _ _ _ f c.requires
    (is_invalid _ c.in_default.not-Memory) c.borrowed.ensures.borrows h

pub returns-in_default-clause-span : goal.returns-in_default-clause-span
returns-in_default-clause-span c = λ spans. spanned_version _ _ _ _ spans c.borrowed.ensures.span
