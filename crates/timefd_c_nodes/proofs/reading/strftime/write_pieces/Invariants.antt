use Rattle.std.proofs.Common.{◌≤◌, ◌==◌, not, List, length, IsUtf8}
use Rattle.timefd_lang_component.specs.Tree.{Tree}
use Rattle.timefd_language.proofs.DirectiveLemmas.DirectiveLemmas.{Continues}
use Rattle.timefd_c_nodes.specs.Reading.Pieces.{PiecesAreWritten}
use Rattle.timefd_c_nodes.proofs.ReadingLemmas.CountedLemmas.{FitsIf}
use Rattle.timefd_c_nodes.proofs.reading.strftime.write_pieces.Given as goal

-- the pieces so far, which are written
abbrev pub invariant-pieces : goal.invariant-pieces
invariant-pieces g l =
    IsUtf8 l.rest × (length l.rest ≤ length l.text) × (done : List Tree)
    × Continues l.text done l.rest
    × PiecesAreWritten (not (g.row.AS_ONE == 0)) done l.fn.nodes l.nodes l.fn.literals l.literals l.progress
    × FitsIf (not (g.row.AS_ONE == 0)) l.progress.end l.text l.rest

abbrev pub decreases-pieces : goal.decreases-pieces
decreases-pieces g l = length l.rest
