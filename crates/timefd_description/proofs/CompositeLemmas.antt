-- The lists of composite letters.
use Rattle.std.proofs.Common.{◌≡◌, ◌∙◌, ◌<◌, ◌≤◌, ℕ, zero, suc, IsTrue, List, [], ◌∷◌, ◌++◌, OnOk, Result, length, get_or, refl, sym, ap, subst, arith, length-append}
use Rattle.std.proofs.lemmas.Bool.{and_parts}
use Rattle.std.proofs.lemmas.List.{length-map}
use Rattle.std.proofs.lemmas.Result.{on_ok_weaker}
use Rattle.std.specs.List.{list_all}
use Rattle.timefd_parse.specs.Tree.{Tree, compound, pack, trees}
use Rattle.timefd_description.specs.Modern.{is_leaf, modern_list, modern_tree}
use Rattle.timefd_lang_node_list.specs.Item.Meaning.{item_tree, item_trees}
use Rattle.timefd_lang_node_list.specs.declared.item.borrowed_format_item.BorrowedFormatItem.{BorrowedFormatItem}
use Rattle.timefd_language.specs.Strings.{are_of_strings, is_of_strings}
use Rattle.timefd_lang_node_list.proofs.NodeLemmas.{before-append, ending-append}
use Rattle.timefd_lang_node_list.specs.Nodes.{before, ending}
use Rattle.timefd_language.specs.Directives.LetterMeaning.{composite_list}
use Rattle.timefd_language.specs.declared.strftime.letter.Composite.{Composite}
use Rattle.timefd_language.specs.declared.strftime.letter.Composite.TheVariants.{DateAndTime, ShortDate, IsoDate, TimeOf12, HourAndMinute, TimeOf24, Offset}

composite_leaves : (c : Composite) → IsTrue (list_all is_leaf (composite_list c))
composite_leaves DateAndTime = refl
composite_leaves ShortDate = refl
composite_leaves IsoDate = refl
composite_leaves TimeOf12 = refl
composite_leaves HourAndMinute = refl
composite_leaves TimeOf24 = refl
composite_leaves Offset = refl

pub leaves_of : (c : Composite) (ts : List Tree) → ts ≡ composite_list c → IsTrue (list_all is_leaf ts)
leaves_of c ts is = subst (λ us. IsTrue (list_all is_leaf us)) (sym is) (composite_leaves c)

composite_packed : (c : Composite)
    → pack (modern_list (composite_list c)) ≡ modern_tree (compound (trees (composite_list c)))
composite_packed DateAndTime = refl
composite_packed ShortDate = refl
composite_packed IsoDate = refl
composite_packed TimeOf12 = refl
composite_packed HourAndMinute = refl
composite_packed TimeOf24 = refl
composite_packed Offset = refl

-- each item of a list is a leaf, and a literal is a string

pub leaf_at : (items : List BorrowedFormatItem) (i : ℕ) (d : BorrowedFormatItem) → i < length items
    → IsTrue (list_all is_leaf (item_trees items)) → IsTrue (is_leaf (item_tree (get_or items i d)))
leaf_at [] i d within all = absurd (omega (arith, within))
leaf_at (x ∷ xs) zero d within all =
    (and_parts (is_leaf (item_tree x)) (list_all is_leaf (item_trees xs)) all).0
leaf_at (x ∷ xs) (suc i) d within all =
    leaf_at xs i d (omega (arith, within))
    (and_parts (is_leaf (item_tree x)) (list_all is_leaf (item_trees xs)) all).1

pub string_at : (items : List BorrowedFormatItem) (i : ℕ) (d : BorrowedFormatItem) → i < length items
    → IsTrue (are_of_strings items) → IsTrue (is_of_strings (get_or items i d))
string_at [] i d within all = absurd (omega (arith, within))
string_at (x ∷ xs) zero d within all = (and_parts (is_of_strings x) (are_of_strings xs) all).0
string_at (x ∷ xs) (suc i) d within all =
    string_at xs i d (omega (arith, within)) (and_parts (is_of_strings x) (are_of_strings xs) all).1

counted : (items : List BorrowedFormatItem) (ts : List Tree) → item_trees items ≡ ts
    → length items ≡ length (modern_list ts)
counted items ts is = sym (length-map items item_tree) ∙ ap length is ∙ sym (length-map ts modern_tree)

-- the list that was added is no longer than all that was built
pub list_there : (c : Composite) (items : List BorrowedFormatItem) (old between : List Tree) (count : ℕ)
    → item_trees items ≡ composite_list c → between ≡ old ++ modern_list (item_trees items)
    → count ≡ length items → count ≤ length between
list_there c items old between count is added counts =
    omega (
      arith,
      counts,
      ap length added,
      length-append old (modern_list (item_trees items)),
      length-map (item_trees items) modern_tree,
      length-map items item_tree,
    )

-- packing the list that was added gives its compound
pub list_packed : {E : Type 0} {T : Type 0} (r : Result T E) (c : Composite) (items : List BorrowedFormatItem)
    (old between new : List Tree) (count : ℕ) → item_trees items ≡ composite_list c
    → between ≡ old ++ modern_list (item_trees items) → count ≡ length items
    → OnOk r (new ≡ before count between ++ pack (ending count between) ∷ [])
    → OnOk r (new ≡ old ++ modern_tree (compound (trees (composite_list c))) ∷ [])
list_packed r c items old between new count is added counts packed =
    let list : between ≡ old ++ modern_list (composite_list c) =
    added ∙ ap (λ ts. old ++ modern_list ts) is in
    let n : count ≡ length (modern_list (composite_list c)) =
    counts ∙ counted items (composite_list c) is in
    on_ok_weaker r
    (λ e. e ∙ ap (λ ts. before count ts ++ pack (ending count ts) ∷ []) list
    ∙ ap (λ ts. ts ++ pack (ending count (old ++ modern_list (composite_list c))) ∷ [])
    (before-append old (modern_list (composite_list c)) count n)
    ∙ ap (λ ts. old ++ pack ts ∷ []) (ending-append old (modern_list (composite_list c)) count n)
    ∙ ap (λ t. old ++ t ∷ []) (composite_packed c))
    packed
