use Rattle.std.proofs.Common.{◌≡◌, List, ◌∷◌, length, ◌<◌, ◌≤◌, ◌+◌, ◌*◌, ◌==◌, not}
use denote.Text.{Utf8}
use denote.Shadow.{shadow}
use Rattle.timefd_items.specs.Builder.{built}
use Rattle.timefd_lang_component.specs.Tree.{Tree}
use Rattle.timefd_language.specs.Bytes.{left}
use Rattle.timefd_parse.specs.Pieces.{IsBuilt}
use Rattle.timefd_parse.specs.Spans.{HasByteAt}
use Rattle.timefd_parse.proofs.ReadLemmas.{Continues}
use Rattle.timefd_parse.proofs.NestedLemmas.{BracketBefore}
use Rattle.timefd_parse.proofs.read.+read.Given as goal

abbrev pub decreases-bracket : goal.decreases-bracket
decreases-bracket g l = 2 * length l.inside.now + 1

abbrev pub decreases-nested : goal.decreases-nested
decreases-nested g l = 2 * length l.text.now + 2

abbrev pub decreases-next_piece : goal.decreases-next_piece
decreases-next_piece g l = 2 * length l.text.now

abbrev pub decreases-members : goal.decreases-members
decreases-members g l = 2 * length l.text.now + 1

-- the head, and the nested descriptions so far
abbrev pub invariant-bracket-inner : goal.invariant-bracket-inner
invariant-bracket-inner g l =
    shadow (Utf8 l.rest) × (l.count + length l.rest ≤ length l.inside) × (read : List Tree)
    × BracketBefore l.version l.limit l.around l.inside l.head l.remaining read l.rest
    × (l.count ≡ length read) × IsBuilt (not (g.row.BUILDS == 0)) (built l.initial.builder)
    (built l.builder) read × (0 < l.count → HasByteAt (left ∷ l.inside) l.remaining)

abbrev pub decreases-bracket-inner : goal.decreases-bracket-inner
decreases-bracket-inner g l = length l.rest

-- the pieces so far
abbrev pub invariant-members-pieces : goal.invariant-members-pieces
invariant-members-pieces g l =
    shadow (Utf8 l.rest) × (l.count + length l.rest ≤ length l.text) × (done : List Tree)
    × Continues l.version l.limit l.around l.text done l.rest
    × (l.count ≡ length done) × IsBuilt (not (g.row.BUILDS == 0)) (built l.initial.builder)
    (built l.builder) done

abbrev pub decreases-members-pieces : goal.decreases-members-pieces
decreases-members-pieces g l = length l.rest
