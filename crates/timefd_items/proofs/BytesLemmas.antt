-- How many bytes items take, one after another.
use Rattle.std.proofs.Common.{rules, Bool, false, ◌≡◌, ◌∙◌, ℕ, ◌+◌, ◌<◌, ◌≤◌, List, [], ◌∷◌, length, map, drop, get_or, refl, sym, ap, add-one, drop-cons, arith}
use Rattle.std.proofs.lemmas.List.{drop_all}
use Rattle.std.proofs.lemmas.Bool.{true≢false}
use Rattle.std.specs.Borrow.{Bor}
use Rattle.timefd_lang_component.specs.ComponentEquality.{component_same}
use Rattle.timefd_lang_component.specs.Equality.{same_component}
use Rattle.timefd_lang_component.specs.declared.component.Component.{Component}
use Rattle.timefd_lang_component.specs.declared.component.Component.TheVariants.{Month, Weekday, WeekNumber, Hour, UnixTimestamp, Year}
use Rattle.timefd_lang_component.specs.Modern.{modern}
use Rattle.timefd_lang_component.specs.Reserved.{reserve, reserve_all, reserved}
use Rattle.timefd_lang_component.specs.Tree.{Tree, first, trees}
use Rattle.timefd_lang_node_list.specs.declared.item.borrowed_format_item.BorrowedFormatItem.{BorrowedFormatItem}
use Rattle.timefd_lang_node_list.specs.declared.item.borrowed_format_item.BorrowedFormatItem.TheVariants as item
use Rattle.timefd_lang_node_list.specs.declared.item.borrowed_format_item.BorrowedFormatItem.TheFolds.{the_lemmas}
use Rattle.timefd_lang_node_list.specs.Item.Meaning.{item_tree}
use Rattle.timefd_lang_node_list.specs.Nodes.{kept_bytes}

pub first_tree : (members : Bor (List BorrowedFormatItem))
    → item_tree (item.First members) ≡ first (trees (map item_tree members.now))
first_tree members = search (rules, the_lemmas)

reserve_at : {A : Type 0} (tree : A → Tree) (items : List A) (at : ℕ) (x : A) → at < length items
    → x ≡ get_or items at x
    → reserve_all (trees (map tree (drop at items))) ≡ reserve (tree x) + reserve_all
    (trees (map tree (drop (at + 1) items)))
reserve_at tree items at x below is =
    let head : drop at items ≡ get_or items at x ∷ drop (at + 1) items =
    rw add-one (drop-cons items at x below) in
    ap (λ xs. reserve_all (trees (map tree xs))) (head ∙ ap (λ y. y ∷ drop (at + 1) items) (sym is))

pub bytes_step : {A : Type 0} (tree : A → Tree) (items : List A) (at : ℕ) (x : A)
    (bytes one next total : ℕ) → at < length items → x ≡ get_or items at x
    → one ≡ kept_bytes (reserve (tree x)) → next ≡ kept_bytes (bytes + one)
    → kept_bytes (bytes + reserve_all (trees (map tree (drop at items)))) ≡ total
    → kept_bytes (next + reserve_all (trees (map tree (drop (at + 1) items)))) ≡ total
bytes_step tree items at x bytes one next total below is one_is next_is so_far =
    omega (arith, one_is, next_is, so_far, reserve_at tree items at x below is)

pub bytes_end : {A : Type 0} (tree : A → Tree) (items : List A) (at bytes total : ℕ)
    → length items ≤ at → bytes ≡ kept_bytes bytes
    → kept_bytes (bytes + reserve_all (trees (map tree (drop at items)))) ≡ total → bytes ≡ total
bytes_end tree items at bytes total past capped all =
    omega (
      arith,
      capped,
      all,
      ap (λ xs. reserve_all (trees (map tree xs)))
          (drop_all at items past),
    )

pub first_none : {A : Type 0} (tree : A → Tree) (items : List A) → length items ≡ 0
    → 0 ≡ kept_bytes (reserve (first (trees (map tree items))))
first_none tree [] h = refl
first_none tree (x ∷ items) h = absurd (omega (arith, h))

pub first_some : {A : Type 0} (tree : A → Tree) (items : List A) (x : A) → 1 ≤ length items
    → x ≡ get_or items 0 x
    → kept_bytes (reserve (tree x)) ≡ kept_bytes (reserve (first (trees (map tree items))))
first_some tree [] x h is = absurd (omega (arith, h))
first_some tree (y ∷ items) x h is = ap (λ z. kept_bytes (reserve (tree z))) is

-- a deprecated component reserves nothing
pub deprecated_none : (c : Component) → (modern c ≡ c → ⊥) → 0 ≡ reserved c
deprecated_none (Month m) other = refl
deprecated_none (Weekday m) other = refl
deprecated_none (WeekNumber m) other = refl
deprecated_none (Hour m) other = refl
deprecated_none (UnixTimestamp m) other = refl
deprecated_none (Year m) other = refl
deprecated_none c other = absurd (other refl)

pub unlike : (a b : Component) (t : Bool) → t ≡ same_component a b → t ≡ false → a ≡ b → ⊥
unlike a b t is isnt e =
    true≢false (sym (component_same b) ∙ ap (λ x. same_component x b) (sym e) ∙ sym is ∙ isnt)
