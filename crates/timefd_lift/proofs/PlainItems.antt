-- The items of version 2 are literals and components.
use Rattle.std.proofs.Common.{ℕ, ◌≡◌, ◌+◌, ◌<◌, ◌∙◌, List, [], ◌∷◌, ◌++◌, length, get_or, drop, refl, sym, ap, subst, append_assoc, add-one, drop-cons, IsTrue}
use Rattle.std.proofs.lemmas.Bool.{and_parts}
use Rattle.std.specs.Prelude.{⊤}
use Rattle.timefd_lang_node_list.specs.declared.item.borrowed_format_item.BorrowedFormatItem.{BorrowedFormatItem}
use Rattle.timefd_lang_node_list.specs.Item.Meaning.{item_tree, item_trees}
use Rattle.timefd_lang_component.specs.Tree.{Text, Tree}
use Rattle.timefd_language.specs.declared.description_version.DescriptionVersion.TheVariants.{Two}
use Rattle.timefd_language.specs.Grammar.{Pieces, no_pieces, run, escape, closing, bracket, no_nested, nested, items, ArePieces, Spells}
use Rattle.timefd_language.specs.Strings.{is_of_strings, are_of_strings}
use Rattle.timefd_lift.specs.Plain.{IsPlain, IsPlainItem, ArePlainItems}
use Rattle.timefd_lift.specs.Written.{tree_text, written}
use Rattle.timefd_language.proofs.Lift.{bracket_refuses}
use Rattle.timefd_lift.proofs.Leaves.{bracket-leaf}

abbrev ArePlain : List Tree → Type 0
ArePlain [] = ⊤
ArePlain (t ∷ ts) = IsPlain t × ArePlain ts

pieces_plain : (limit : ℕ) (ps : Pieces) → ArePieces Two limit 0 ps → ArePlain (items ps)
pieces_plain limit no_pieces are = tt
pieces_plain limit (run bytes rest) are = (tt, pieces_plain limit rest are.2)
pieces_plain limit (escape a b rest) are = (tt, pieces_plain limit rest are.1)
pieces_plain limit (closing rest) are = (tt, pieces_plain limit rest are.2)
pieces_plain limit (bracket h no_nested white tree rest) are =
    (subst IsPlain (bracket-leaf h _ tree are.3).is tt, pieces_plain limit rest are.4)
pieces_plain limit (bracket h (nested w ps ns) white tree rest) are =
    absurd (bracket_refuses h w ps ns white tree are.3)

items_plain : (items : List BorrowedFormatItem) → ArePlain (item_trees items)
    → IsTrue (are_of_strings items) → ArePlainItems items
items_plain [] plain strings = tt
items_plain (item ∷ items) plain strings =
    let p = and_parts (is_of_strings item) (are_of_strings items) strings in
    ((plain.0, p.0), items_plain items plain.1 p.1)

pub spelled-plain : (limit : ℕ) (text : Text) (list : List Tree) (items : List BorrowedFormatItem)
    → Spells Two limit 0 text list
    → item_trees items ≡ list → IsTrue (are_of_strings items) → ArePlainItems items
spelled-plain limit text list items s is strings =
    items_plain items (subst ArePlain (sym (is ∙ s.3)) (pieces_plain limit s.0 s.1)) strings

-- the empty text has no items
pub no-items : (items : List BorrowedFormatItem) → item_trees items ≡ [] → items ≡ []
no-items [] e = refl
no-items (item ∷ items) e = absurd cc

-- Item by item.

pub first_left : (items : List BorrowedFormatItem) (at : ℕ) (x : BorrowedFormatItem) → at < length items
    → x ≡ get_or items at x → drop at items ≡ x ∷ drop (at + 1) items
first_left items at x below is =
    let first : drop at items ≡ get_or items at x ∷ drop (at + 1) items =
    rw add-one (drop-cons items at x below) in
    first ∙ ap (λ y. y ∷ drop (at + 1) items) (sym is)

pub left-plain : (items : List BorrowedFormatItem) (at : ℕ) (x : BorrowedFormatItem)
    → at < length items → x ≡ get_or items at x
    → ArePlainItems (drop at items) → IsPlainItem x × ArePlainItems (drop (at + 1) items)
left-plain items at x below is plain = subst ArePlainItems (first_left items at x below is) plain

-- one more item is written
pub left-written : (items : List BorrowedFormatItem) (at : ℕ) (x : BorrowedFormatItem)
    (answer next : Text) → at < length items → x ≡ get_or items at x
    → answer ++ written (item_trees (drop at items)) ≡ written (item_trees items)
    → next ≡ answer ++ tree_text (item_tree x)
    → next ++ written (item_trees (drop (at + 1) items)) ≡ written (item_trees items)
left-written items at x answer next below is so_far one =
    ap (λ y. y ++ written (item_trees (drop (at + 1) items))) one
    ∙ append_assoc answer (tree_text (item_tree x)) (written (item_trees (drop (at + 1) items)))
    ∙ ap (λ y. answer ++ written (item_trees y)) (sym (first_left items at x below is))
    ∙ so_far
