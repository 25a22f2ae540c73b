use Rattle.std.proofs.Common.{◌≡◌, ◌≤◌, List, length, IsUtf8}
use Rattle.timefd_parse.specs.Tree.{Tree}
use Rattle.timefd_items.specs.Builder.{built}
use Rattle.timefd_language.proofs.DirectiveLemmas.DirectiveLemmas.{Continues}
use Rattle.timefd_description.specs.Modern.{modern_list}
use Rattle.timefd_description.proofs.strftime.directives.Given as goal

-- the pieces so far, which are built
abbrev pub invariant-pieces : goal.invariant-pieces
invariant-pieces l =
    IsUtf8 l.rest × (length l.rest ≤ length l.text) × (done : List Tree)
    × Continues l.text done l.rest × (built l.builder ≡ modern_list done)

abbrev pub decreases-pieces : goal.decreases-pieces
decreases-pieces l = length l.rest
