use Rattle.std.proofs.Common.{◌+◌, ◌≤◌, length, IsUtf8}
use Rattle.timefd_language.proofs.DirectiveLemmas.DirectiveLemmas.{CountsTo}
use Rattle.timefd_language.proofs.strftime.count.count_of.Given as goal

-- the pieces so far
abbrev pub invariant-pieces : goal.invariant-pieces
invariant-pieces l = IsUtf8 l.rest × (l.count + length l.rest ≤ length l.text)
    × CountsTo l.text l.count l.rest

abbrev pub decreases-pieces : goal.decreases-pieces
decreases-pieces l = length l.rest
