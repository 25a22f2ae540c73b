use Rattle.std.proofs.Common.{◌≡◌, ◌≤◌, ◌+◌, List, length, IsUtf8}
use Rattle.timefd_items.specs.Builder.{built}
use Rattle.timefd_lang_component.specs.Reserved.{reserve_all}
use Rattle.timefd_lang_component.specs.Tree.{Tree, trees}
use Rattle.timefd_language.specs.declared.description_version.DescriptionVersion.TheVariants.{Three}
use Rattle.timefd_parse.proofs.ReadLemmas.{Continues}
use Rattle.timefd_parse.proofs.counting.bytes_beside.Given as goal

-- the pieces so far, of which some are built
abbrev pub invariant-pieces : goal.invariant-pieces
invariant-pieces l =
    IsUtf8 l.rest × (length l.rest ≤ length l.text) × (done : List Tree)
    × Continues Three l.limit 0 l.text done l.rest
    × (l.bytes + reserve_all (trees (built l.builder)) ≡ reserve_all (trees done))
    × (length (built l.builder) ≤ length done)

abbrev pub decreases-pieces : goal.decreases-pieces
decreases-pieces l = length l.rest
