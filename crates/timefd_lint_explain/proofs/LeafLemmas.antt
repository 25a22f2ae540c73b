-- The literal or the component that a text begins with.
use Rattle.std.proofs.Common.{rules, ℕ, ◌≡◌, ◌∙◌, false, List, [], ◌∷◌, ◌++◌, length, arith, refl, subst, sym}
use Rattle.std.proofs.lemmas.List.{append_cancel_right}
use Rattle.std.specs.Borrow.{Bor}
use Rattle.timefd_lang_component.specs.Tree.{Text, Tree, component, literal}
use Rattle.timefd_lang_component.specs.declared.component.Component.{Component}
use Rattle.timefd_lang_node_list.specs.declared.item.borrowed_format_item.BorrowedFormatItem.TheVariants as items
use Rattle.timefd_lang_node_list.specs.declared.item.borrowed_format_item.BorrowedFormatItem.TheFolds.{the_lemmas}
use Rattle.timefd_lang_node_list.specs.Item.Meaning.{item_tree}
use Rattle.timefd_language.proofs.LawLemmas.{one_answer_law}
use Rattle.timefd_language.specs.Bytes.{is_version_three}
use Rattle.timefd_language.specs.Grammar.{Spells, nesting_limit, no_pieces, spelling}
use Rattle.timefd_language.specs.declared.description_version.DescriptionVersion.{DescriptionVersion}
use Rattle.timefd_language.specs.declared.description_version.Language.{Language}
use Rattle.timefd_language.specs.declared.description_version.Language.TheVariants.{Version}
use Rattle.timefd_parse.proofs.FirstPieceLemmas.{begins_list, ends_with}
use Rattle.timefd_parse.specs.FirstPiece.{BeginsList, EndsWith, IsAfterFirst}
use Rattle.timefd_parse.specs.Language.{SpellsIn}
use Rattle.timefd_parse.specs.Pieces.{IsPiece}
use Rattle.timefd_parse.specs.Read.{BeginsWithPiece, LeadsOn}
use Rattle.timefd_parse.specs.declared.piece.Piece.{Piece}
use Rattle.timefd_parse.specs.declared.piece.Piece.TheVariants as pieces
use Rattle.timefd_lint_explain.specs.Shown.{AreShown, IsShown, ShowsOne}
use Rattle.timefd_lint_explain.specs.declared.piece.Shown.{Shown}

-- Such a piece as an item.

pub literal_leads : (v : DescriptionVersion) (text : Text) (old new : List Tree) (piece : Piece) (l rest : Bor Text)
    → piece ≡ pieces.Literal l → BeginsWithPiece v false nesting_limit 0 text old new (piece, rest)
    → LeadsOn v nesting_limit 0 text (item_tree (items.StringLiteral l)) rest.now
literal_leads v text old new piece l rest e is =
    let same : item_tree (items.StringLiteral l) ≡ literal l.now = search (rules, the_lemmas) in
    let meant = subst (λ p. IsPiece (is_version_three v) false old new p is.0) e is.2 in
    subst (λ t. LeadsOn v nesting_limit 0 text t rest.now) (meant.0 ∙ sym same) is.1

pub component_leads : (v : DescriptionVersion) (text : Text) (old new : List Tree) (piece : Piece) (c : Component)
    (bytes : ℕ) (rest : Bor Text) → piece ≡ pieces.Component c bytes
    → BeginsWithPiece v false nesting_limit 0 text old new (piece, rest)
    → LeadsOn v nesting_limit 0 text (item_tree (items.Component c)) rest.now
component_leads v text old new piece c bytes rest e is =
    let same : item_tree (items.Component c) ≡ component c = search (rules, the_lemmas) in
    let meant = subst (λ p. IsPiece (is_version_three v) false old new p is.0) e is.2 in
    subst (λ t. LeadsOn v nesting_limit 0 text t rest.now) (meant.0 ∙ sym same) is.1

-- The piece and what follows it.

pub leaf_after : (v : DescriptionVersion) (text rest : Text) (tree : Tree) → LeadsOn v nesting_limit 0 text tree rest
    → IsAfterFirst (Version v) text rest
leaf_after v text rest tree is =
    record { tree = tree; leads = is.leads; shorter = is.shorter; utf8 = is.utf8 }

pub leaf_ends : (v : DescriptionVersion) (text rest : Text) (tree : Tree) → LeadsOn v nesting_limit 0 text tree rest
    → EndsWith text rest
leaf_ends v text rest tree is = ends_with (Version v) text rest (leaf_after v text rest tree is)

pub leaf_begins : (language : Language) (v : DescriptionVersion) (text piece rest shown : Text) (tree : Tree)
    (list : List Tree) → language ≡ Version v → LeadsOn v nesting_limit 0 text tree rest → piece ++ rest ≡ text
    → shown ≡ piece → SpellsIn language nesting_limit text list → BeginsList language shown rest list
leaf_begins language v text piece rest shown tree list e is joined same spells =
    let begins = begins_list (Version v) text piece rest list (leaf_after v text rest tree is) joined
    (subst (λ l. SpellsIn l nesting_limit text list) e spells) in
    subst (λ l. BeginsList l shown rest list) (sym e) (subst (λ t. BeginsList (Version v) t rest list) (sym same) begins)

leaf_alone : (v : DescriptionVersion) (text piece rest : Text) (tree : Tree)
    → LeadsOn v nesting_limit 0 text tree rest → piece ++ rest ≡ text → Spells v nesting_limit 0 piece (tree ∷ [])
leaf_alone v text piece rest tree is joined =
    let w = is.leads no_pieces rest tt refl in
    (w.0, w.1, append_cancel_right piece (spelling w.0) rest (joined ∙ w.2), sym w.3)

-- The piece spells the one tree that it is shown as.
pub leaf_shown : (language : Language) (v : DescriptionVersion) (text piece rest : Text) (tree other : Tree) (s : Shown)
    → language ≡ Version v → LeadsOn v nesting_limit 0 text tree rest → piece ++ rest ≡ text → ShowsOne piece s tree
    → SpellsIn language nesting_limit s.text.now (other ∷ []) → IsShown s other
leaf_shown language v text piece rest tree other s e is joined shown spells =
    let alone = subst (λ t. Spells v nesting_limit 0 t (tree ∷ [])) (sym shown.0)
    (leaf_alone v text piece rest tree is joined) in
    let one = (one_answer_law v nesting_limit s.text.now).1.one_list (tree ∷ []) (other ∷ []) alone
    (subst (λ l. SpellsIn l nesting_limit s.text.now (other ∷ [])) e spells) in
    (subst (AreShown (s ∷ [])) one (shown.1, tt)).0

pub empty_text : (text : Text) → length text ≡ 0 → text ≡ []
empty_text [] e = refl
empty_text (b ∷ text) e = absurd (omega (arith, e))
