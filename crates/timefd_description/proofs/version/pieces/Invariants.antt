use Rattle.std.proofs.Common.{◌≡◌, ◌≤◌, List, length, IsUtf8}
use Rattle.timefd_parse.specs.Tree.{Tree}
use Rattle.timefd_items.specs.Builder.{built}
use Rattle.timefd_parse.proofs.ReadLemmas.{Continues}
use Rattle.timefd_description.proofs.version.pieces.Given as goal

-- the pieces so far, which are built
abbrev pub invariant-pieces : goal.invariant-pieces
invariant-pieces l =
    IsUtf8 l.rest × (length l.rest ≤ length l.text) × (done : List Tree)
    × Continues l.version l.limit 0 l.text done l.rest
    × (built l.builder ≡ done)

abbrev pub decreases-pieces : goal.decreases-pieces
decreases-pieces l = length l.rest
