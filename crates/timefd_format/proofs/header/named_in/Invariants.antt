use Rattle.timefd_format.proofs.FieldLemmas.{left_len}
use Rattle.timefd_format.proofs.HeaderLemmas.{Decides}
use Rattle.timefd_format.proofs.header.named_in.Given as goal

-- The result depends only on what is left.
abbrev pub invariant-fields : goal.invariant-fields
invariant-fields l = Decides l.fn.name l.fn.header l.found l.at l.more

abbrev pub decreases-fields : goal.decreases-fields
decreases-fields l = left_len l.more
