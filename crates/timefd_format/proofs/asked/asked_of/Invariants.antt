use Rattle.std.proofs.Common.{◌≡◌, length}
use Rattle.timefd_format.specs.Asked.{asked_of, asked_from}
use Rattle.timefd_format.proofs.asked.asked_of.Given as goal

-- The result depends only on what is left.
abbrev pub invariant-words : goal.invariant-words
invariant-words l = asked_from l.state l.rest ≡ asked_of l.fn.words

abbrev pub decreases-words : goal.decreases-words
decreases-words l = length l.rest
