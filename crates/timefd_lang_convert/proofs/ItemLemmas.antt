-- The items of a text, one after another.
use Rattle.std.proofs.Common.{ℕ, ◌≡◌, ◌+◌, ◌<◌, ◌∙◌, List, [], ◌∷◌, ◌++◌, length, get_or, drop, refl, sym, ap, subst, append_assoc, IsTrue, arith}
use Rattle.std.proofs.lemmas.Bool.{and_parts}
use Rattle.timefd_lang_component.specs.Tree.{Text, trees}
use Rattle.timefd_lang_convert.specs.Leaves.{AreLeaves, AreShallow, Every, AreLeafItems, AreShallowItems}
use Rattle.timefd_lang_convert.proofs.LetterLemmas.{spelled_shallow}
use Rattle.timefd_lang_node_list.specs.declared.item.borrowed_format_item.BorrowedFormatItem.{BorrowedFormatItem}
use Rattle.timefd_lang_node_list.specs.Item.Meaning.{item_tree, item_trees}
use Rattle.timefd_language.specs.Strftime.{no_directives, SpellsStrftime}
use Rattle.timefd_language.specs.Strings.{is_of_strings, are_of_strings}
use Rattle.timefd_lift.proofs.PlainItems.{first_left}
use Rattle.timefd_lang_convert.specs.Printing.Printed.{printed, printed_all}

-- Members of a compound, and items of a text.

pub leaf_items : (items : List BorrowedFormatItem) → AreLeaves (trees (item_trees items))
    → IsTrue (are_of_strings items) → AreLeafItems items
leaf_items [] are strings = tt
leaf_items (item ∷ items) are strings =
    let p = and_parts (is_of_strings item) (are_of_strings items) strings in
    ((are.0, p.0), leaf_items items are.1 p.1)

shallow_items : (items : List BorrowedFormatItem) → AreShallow (trees (item_trees items))
    → IsTrue (are_of_strings items) → AreShallowItems items
shallow_items [] are strings = tt
shallow_items (item ∷ items) are strings =
    let p = and_parts (is_of_strings item) (are_of_strings items) strings in
    ((are.0, p.0), shallow_items items are.1 p.1)

pub spelled_items : (text : Text) (items : List BorrowedFormatItem)
    → SpellsStrftime text (item_trees items) → IsTrue (are_of_strings items)
    → AreShallowItems items
spelled_items text items s strings =
    shallow_items items (spelled_shallow text (item_trees items) s) strings

-- Item by item.

pub every-left : (P : BorrowedFormatItem → Type 0) (items : List BorrowedFormatItem) (at : ℕ)
    (x : BorrowedFormatItem) → at < length items → x ≡ get_or items at x
    → Every P (drop at items) → P x × Every P (drop (at + 1) items)
every-left P items at x below is every = subst (Every P) (first_left items at x below is) every

-- one more item is printed
pub left-printed : (items : List BorrowedFormatItem) (at : ℕ) (x : BorrowedFormatItem)
    (answer next whole : Text) → at < length items → x ≡ get_or items at x
    → answer ++ printed_all (trees (item_trees (drop at items))) ≡ whole
    → next ≡ answer ++ printed (item_tree x)
    → next ++ printed_all (trees (item_trees (drop (at + 1) items))) ≡ whole
left-printed items at x answer next whole below is so_far one =
    ap (λ y. y ++ printed_all (trees (item_trees (drop (at + 1) items)))) one
    ∙ append_assoc answer (printed (item_tree x))
    (printed_all (trees (item_trees (drop (at + 1) items))))
    ∙ ap (λ y. answer ++ printed_all (trees (item_trees y))) (sym (first_left items at x below is))
    ∙ so_far

-- the empty text has no items
pub none_spelled : (text : Text) → text ≡ [] → SpellsStrftime text []
none_spelled text nil = (no_directives, tt, nil, refl)

pub no_items : (items : List BorrowedFormatItem) → item_trees items ≡ [] → items ≡ []
no_items [] e = refl
no_items (item ∷ items) e = absurd cc

pub no_bytes : (text : Text) → length text ≡ 0 → text ≡ []
no_bytes [] none = refl
no_bytes (b ∷ bytes) none = absurd (omega (arith, none))
