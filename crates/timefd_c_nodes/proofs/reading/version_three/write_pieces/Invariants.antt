use Rattle.std.proofs.Common.{◌≡◌, ◌≤◌, [], List, length, IsUtf8}
use Rattle.timefd_lang_component.specs.Tree.{Tree}
use Rattle.timefd_items.specs.Builder.{built}
use Rattle.timefd_language.specs.declared.description_version.DescriptionVersion.TheVariants.{Three}
use Rattle.timefd_parse.proofs.ReadLemmas.{Continues}
use Rattle.timefd_c_nodes.specs.Reading.Progress.{HasWritten}
use Rattle.timefd_c_nodes.proofs.reading.version_three.write_pieces.Given as goal

-- the pieces so far, which are written, so that none is built
abbrev pub invariant-pieces : goal.invariant-pieces
invariant-pieces l =
    IsUtf8 l.rest × (length l.rest ≤ length l.text) × (built l.builder ≡ []) × (done : List Tree)
    × Continues Three l.limit 0 l.text done l.rest
    × HasWritten done l.fn.nodes l.nodes l.fn.literals l.literals l.progress

abbrev pub decreases-pieces : goal.decreases-pieces
decreases-pieces l = length l.rest
