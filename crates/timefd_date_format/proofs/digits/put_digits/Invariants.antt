use Rattle.timefd_date_format.proofs.DigitLemmas.{IsPutTo}
use Rattle.timefd_date_format.proofs.digits.put_digits.Given as goal

-- The digits after those of `left` are put.
abbrev pub invariant-pairs : goal.invariant-pairs
invariant-pairs l = IsPutTo l.number l.left l.fn.buffer l.buffer l.fn.end l.at

abbrev pub decreases-pairs : goal.decreases-pairs
decreases-pairs l = l.left
