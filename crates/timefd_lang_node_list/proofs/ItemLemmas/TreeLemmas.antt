-- Lists of items, member by member.
use Rattle.std.proofs.Common.{◌≡◌, ◌≢◌, ◌<◌, ℕ, suc, drop, slice_index_or, map, length, List, [], ◌∷◌, Bool, true, false, refl, ◌&&◌, rules, ap, ◌∙◌}
use Rattle.std.proofs.Math.Seq.{drop-cons}
use Rattle.timefd_lang_node_list.specs.declared.item.borrowed_format_item.BorrowedFormatItem.{BorrowedFormatItem}
use Rattle.timefd_lang_component.specs.Tree.{trees}
use Rattle.timefd_lang_node_list.specs.Item.Meaning.{item_tree}
use Rattle.timefd_lang_node_list.specs.Item.Equality.{same_tree, same_trees}

and_false : (b : Bool) → (b && false) ≡ false
and_false true = refl
and_false false = refl

-- lists of different lengths differ
pub same_trees-lengths : (xs ys : List BorrowedFormatItem) → length xs ≢ length ys
    → same_trees (trees (map item_tree xs)) (trees (map item_tree ys)) ≡ false
same_trees-lengths [] [] d = absurd (d refl)
same_trees-lengths [] (y ∷ ys) d = refl
same_trees-lengths (x ∷ xs) [] d = refl
same_trees-lengths (x ∷ xs) (y ∷ ys) d =
    ap (λ t. same_tree (item_tree x) (item_tree y) && t) (same_trees-lengths xs ys (search rules)) ∙
    and_false (same_tree (item_tree x) (item_tree y))

-- a pair of equal items in front makes no difference
pub same_trees-drop : (xs ys : List BorrowedFormatItem) (k : ℕ) (x y : BorrowedFormatItem)
    → k < length xs → length xs ≡ length ys
    → same_tree (item_tree (slice_index_or xs k x)) (item_tree (slice_index_or ys k y)) ≡ true
    → same_trees (trees (map item_tree (drop k xs))) (trees (map item_tree (drop k ys)))
    ≡ same_trees (trees (map item_tree (drop (suc k) xs))) (trees (map item_tree (drop (suc k) ys)))
same_trees-drop xs ys k x y p e h =
    rw (drop-cons xs k x p, drop-cons ys k y (rw (← e) p), h) refl
