-- The walk over parts from the last one to the first.
use Rattle.std.proofs.Common.{ℕ, ◌≡◌, ◌∙◌, ◌+◌, ◌<◌, ◌&&◌, Bool, List, [], ◌∷◌, ◌++◌, map, take, get_or, length, refl, sym, ap, add-one, append-nil, append_assoc}
use Rattle.std.proofs.Math.Seq.{take-suc}
use Rattle.timefd_lang_component.specs.Tree.{Tree, trees}
use Rattle.timefd_lang_node_list.specs.Leaves.{leaves, leaves_all}
use Rattle.timefd_format.specs.Completing.Given.{is_part_given, with_parts}
use Rattle.timefd_date_moment.specs.declared.fields.fields.Fields.{Fields}

with_append : (f : Fields) (ts us : List Tree) (b : Bool) → with_parts f (ts ++ us) b ≡ with_parts f ts (with_parts f us b)
with_append f [] us b = refl
with_append f (t ∷ ts) us b = ap (λ (x : Bool). is_part_given f t && x) (with_append f ts us b)

-- What is known of the parts after those that are left, together with those parts, is everything.
pub one_leaf : (f : Fields) (all left front : List Tree) (t : Tree) (from b next : Bool)
    → with_parts f left b ≡ with_parts f all from → left ≡ front ++ t ∷ [] → next ≡ (is_part_given f t && b)
    → with_parts f front next ≡ with_parts f all from
one_leaf f all left front t from b next so_far split one =
    ap (with_parts f front) one ∙ sym (with_append f front (t ∷ []) b)
    ∙ ap (λ (ts : List Tree). with_parts f ts b) (sym split) ∙ so_far

pub no_leaf : (f : Fields) (all left : List Tree) (from b : Bool)
    → with_parts f left b ≡ with_parts f all from → left ≡ [] → b ≡ with_parts f all from
no_leaf f all left from b so_far none = ap (λ (ts : List Tree). with_parts f ts b) (sym none) ∙ so_far

module _ {A : Type 0} (tree : A → Tree) where
  after : (ys : List A) (x : A)
      → leaves_all (trees (map tree (ys ++ x ∷ []))) ≡ leaves_all (trees (map tree ys)) ++ leaves (tree x)
  after [] x = append-nil (leaves (tree x))
  after (y ∷ ys) x =
      ap (λ us. leaves (tree y) ++ us) (after ys x)
      ∙ sym (append_assoc (leaves (tree y)) (leaves_all (trees (map tree ys))) (leaves (tree x)))

  -- What is known of the items after those that are left, together with those items, is everything.
  pub one_item : (f : Fields) (xs : List A) (at : ℕ) (x : A) → at < length xs → x ≡ get_or xs at x
      → (b next whole : Bool)
      → with_parts f (leaves_all (trees (map tree (take (at + 1) xs)))) b ≡ whole
      → next ≡ with_parts f (leaves (tree x)) b
      → with_parts f (leaves_all (trees (map tree (take at xs)))) next ≡ whole
  one_item f xs at x below is b next whole so_far one =
      let last : take (at + 1) xs ≡ take at xs ++ get_or xs at x ∷ [] = rw add-one (take-suc xs at x below) in
      let split : take (at + 1) xs ≡ take at xs ++ x ∷ [] = last ∙ ap (λ y. take at xs ++ y ∷ []) (sym is) in
      ap (with_parts f (leaves_all (trees (map tree (take at xs))))) one
      ∙ sym (with_append f (leaves_all (trees (map tree (take at xs)))) (leaves (tree x)) b)
      ∙ ap (λ (ts : List Tree). with_parts f ts b) (sym (after (take at xs) x))
      ∙ ap (λ (ys : List A). with_parts f (leaves_all (trees (map tree ys))) b) (sym split)
      ∙ so_far
