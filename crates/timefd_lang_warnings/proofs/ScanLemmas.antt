-- The walk over parts from the last one to the first.
use Rattle.std.proofs.Common.{ℕ, ◌≡◌, ◌∙◌, ◌+◌, ◌<◌, List, [], ◌∷◌, ◌++◌, length, map, take, get_or, refl, sym, ap, add-one, append-nil, append_assoc}
use Rattle.std.proofs.Math.Seq.{take-suc}
use Rattle.timefd_lang_component.specs.Tree.{Tree, trees}
use Rattle.timefd_lang_node_list.specs.Leaves.{leaves, leaves_all}
use Rattle.timefd_lang_warnings.specs.declared.sought.Scan.{Scan}
use Rattle.timefd_lang_warnings.specs.declared.sought.Sought.{Sought}
use Rattle.timefd_lang_warnings.specs.Sought.{start, with_part, with_parts, scan_of}

-- The walk from the end finds what there is.
pub scanned : (s : Sought) (ts : List Tree) → with_parts s ts start ≡ scan_of s ts
scanned s [] = refl
scanned s (t ∷ ts) = ap (with_part s t) (scanned s ts)

pub with_append : (s : Sought) (ts us : List Tree) (scan : Scan)
    → with_parts s (ts ++ us) scan ≡ with_parts s ts (with_parts s us scan)
with_append s [] us scan = refl
with_append s (t ∷ ts) us scan = ap (with_part s t) (with_append s ts us scan)

-- What was found after the parts that are left, together with those parts, is everything.
pub one_leaf : (s : Sought) (all left front : List Tree) (t : Tree) (from scan next : Scan)
    → with_parts s left scan ≡ with_parts s all from → left ≡ front ++ t ∷ [] → next ≡ with_part s t scan
    → with_parts s front next ≡ with_parts s all from
one_leaf s all left front t from scan next so_far split one =
    ap (with_parts s front) one ∙ sym (with_append s front (t ∷ []) scan)
    ∙ ap (λ ts. with_parts s ts scan) (sym split) ∙ so_far

pub no_leaf : (s : Sought) (all left : List Tree) (from scan : Scan)
    → with_parts s left scan ≡ with_parts s all from → left ≡ [] → scan ≡ with_parts s all from
no_leaf s all left from scan so_far none = ap (λ ts. with_parts s ts scan) (sym none) ∙ so_far

module _ {A : Type 0} (tree : A → Tree) where
  after : (ys : List A) (x : A)
      → leaves_all (trees (map tree (ys ++ x ∷ []))) ≡ leaves_all (trees (map tree ys)) ++ leaves (tree x)
  after [] x = append-nil (leaves (tree x))
  after (y ∷ ys) x =
      ap (λ us. leaves (tree y) ++ us) (after ys x)
      ∙ sym (append_assoc (leaves (tree y)) (leaves_all (trees (map tree ys))) (leaves (tree x)))

  -- What was found after the items that are left, together with those items, is everything.
  pub one_item : (s : Sought) (xs : List A) (at : ℕ) (x : A) → at < length xs → x ≡ get_or xs at x
      → (scan next whole : Scan)
      → with_parts s (leaves_all (trees (map tree (take (at + 1) xs)))) scan ≡ whole
      → next ≡ with_parts s (leaves (tree x)) scan
      → with_parts s (leaves_all (trees (map tree (take at xs)))) next ≡ whole
  one_item s xs at x below is scan next whole so_far one =
      let last : take (at + 1) xs ≡ take at xs ++ get_or xs at x ∷ [] = rw add-one (take-suc xs at x below) in
      let split : take (at + 1) xs ≡ take at xs ++ x ∷ [] = last ∙ ap (λ y. take at xs ++ y ∷ []) (sym is) in
      ap (with_parts s (leaves_all (trees (map tree (take at xs))))) one
      ∙ sym (with_append s (leaves_all (trees (map tree (take at xs)))) (leaves (tree x)) scan)
      ∙ ap (λ ts. with_parts s ts scan) (sym (after (take at xs) x))
      ∙ ap (λ ys. with_parts s (leaves_all (trees (map tree ys))) scan) (sym split)
      ∙ so_far
