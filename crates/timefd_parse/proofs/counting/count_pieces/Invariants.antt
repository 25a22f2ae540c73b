use Rattle.std.proofs.Common.{◌≡◌, ◌≤◌, ◌+◌, List, length, IsUtf8}
use Rattle.timefd_lang_component.specs.Tree.{Tree}
use Rattle.timefd_parse.proofs.ReadLemmas.{Continues}
use Rattle.timefd_parse.proofs.counting.count_pieces.Given as goal

-- the pieces so far
abbrev pub invariant-pieces : goal.invariant-pieces
invariant-pieces l =
    IsUtf8 l.rest × (l.count + length l.rest ≤ length l.text) × (done : List Tree)
    × Continues l.version l.limit 0 l.text done l.rest × (l.count ≡ length done)

abbrev pub decreases-pieces : goal.decreases-pieces
decreases-pieces l = length l.rest
