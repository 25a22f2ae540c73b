use Rattle.std.proofs.Common.{ℕ, ◌≡◌, ◌+◌, ◌*◌, ◌^◌, ◌<◌, ◌≤◌, List, [], ◌∷◌, drop, length}
use denote.Text.{Utf8}
use denote.Shadow.{shadow}
use Rattle.timefd_lang_component.specs.Tree.{Tree}
use Rattle.timefd_language.specs.Grammar.{Spells, nesting_limit}
use Rattle.timefd_language.specs.declared.description_version.DescriptionVersion.TheVariants.{Three}
use Rattle.timefd_parse.specs.Language.{SpellsIn}
use Rattle.timefd_lint_explain.specs.Examples.{Examples}
use Rattle.timefd_lint_explain.specs.Inside.{Nests}
use Rattle.timefd_lint_explain.specs.Parts.{capped}
use Rattle.timefd_lint_explain.proofs.NestedLemmas.{Nesting}
use Rattle.timefd_lint_explain.proofs.NestedStandLemmas.{NestingAt}
use Rattle.timefd_lint_explain.proofs.StandLemmas.{WalkedAt}
use Rattle.timefd_lint_explain.proofs.WalkLemmas.{Walked}
use Rattle.timefd_lint_explain.proofs.tree.+tree.Given as goal

-- A nested description is shorter than the text around it.

abbrev pub decreases-push_pieces : goal.decreases-push_pieces
decreases-push_pieces l = 4 * length l.text.now + 2

abbrev pub decreases-push_piece : goal.decreases-push_piece
decreases-push_piece l = 4 * length l.piece.now.text.now + 1

abbrev pub decreases-push_nested : goal.decreases-push_nested
decreases-push_nested l = 4 * length l.text.now

abbrev pub decreases-push_described : goal.decreases-push_described
decreases-push_described l = 4 * length l.inner.now + 3

abbrev pub invariant-push_nested-nested : goal.invariant-push_nested-nested
invariant-push_nested-nested l =
    shadow (Utf8 l.rest) × (length l.rest ≤ length l.text)
    × (Examples l.fn.nodes.items → Examples l.nodes.items)
    × ((d : ℕ) (t : Tree) → l.depth ≡ capped d → Spells Three nesting_limit 0 l.text (t ∷ [])
    → Nests t → Nesting d t l.rest l.fn.nodes.items l.nodes.items)
    × ((t : Tree) → Spells Three nesting_limit 0 l.text (t ∷ []) → Nests t
    → l.start + length l.text < 2 ^ 64 → NestingAt l.start t l.text l.rest l.fn.nodes.items l.nodes.items)

abbrev pub decreases-push_nested-nested : goal.decreases-push_nested-nested
decreases-push_nested-nested l = length l.rest

abbrev pub invariant-push_pieces-pieces : goal.invariant-push_pieces-pieces
invariant-push_pieces-pieces l =
    (Examples l.fn.nodes.items → Examples l.nodes.items)
    × ((d : ℕ) (list : List Tree) → l.depth ≡ capped d
    → SpellsIn l.language nesting_limit l.text list
    → Walked l.language d list (drop l.at l.shown) l.fn.nodes.items l.nodes.items)
    × ((list : List Tree) → l.begins + length l.text < 2 ^ 64 → SpellsIn l.language nesting_limit l.text list
    → WalkedAt l.language list l.begins l.text (drop l.at l.shown) l.start l.fn.nodes.items l.nodes.items)
