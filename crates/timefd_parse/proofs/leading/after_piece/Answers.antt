use Rattle.std.proofs.Common.{refl}
use Rattle.timefd_parse.proofs.FirstPieceLemmas.{fault_in}
use Rattle.timefd_parse.proofs.ParseLemmas.{borrowed_assigned, borrowed_refusal, spanned_version}
use Rattle.timefd_parse.proofs.AmountLemmas.{borrowed-in-version}
use Rattle.timefd_parse.proofs.leading.after_piece.Goals as goal

pub returns-clause-fault : goal.returns-clause-fault
returns-clause-fault c =
    borrowed-in-version _ _ _ _ (borrowed_assigned _ _ _ _ _ (fault_in _ _ _ _ c.in-Err.ensures.next)
    c.borrowed.ensures.borrows)

pub returns-clause-memory : goal.returns-clause-memory
returns-clause-memory c =
    borrowed_refusal _ _ _ _ _ (fault_in _ _ _ _ c.in-Err.ensures.next) (c.in-Err.ensures.invalid refl)
    c.borrowed.ensures.borrows

pub returns-clause-span : goal.returns-clause-span
returns-clause-span c = spanned_version _ _ _ _ c.in-Err.ensures.span c.borrowed.ensures.span
