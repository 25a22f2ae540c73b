use Rattle.std.proofs.Common.{◌≤◌, List, length, IsUtf8}
use Rattle.timefd_lang_component.specs.Tree.{Tree}
use Rattle.timefd_parse.proofs.ReadLemmas.{Continues}
use Rattle.timefd_c_nodes.specs.Reading.Progress.{HasWritten}
use Rattle.timefd_c_nodes.proofs.ReadingLemmas.CountedLemmas.{Fits}
use Rattle.timefd_c_nodes.proofs.reading.version.write_pieces.Given as goal

-- the pieces so far, which are written
abbrev pub invariant-pieces : goal.invariant-pieces
invariant-pieces l =
    IsUtf8 l.rest × (length l.rest ≤ length l.text) × (done : List Tree)
    × Continues l.version l.limit 0 l.text done l.rest
    × HasWritten done l.fn.nodes l.nodes l.fn.literals l.literals l.progress
    × Fits l.progress.end l.text l.rest

abbrev pub decreases-pieces : goal.decreases-pieces
decreases-pieces l = length l.rest
