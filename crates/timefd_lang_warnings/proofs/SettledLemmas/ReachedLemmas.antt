-- Parts of a sequence, the last one first.
use Rattle.std.proofs.Common.{ℕ, suc, ◌≡◌, ◌∙◌, ◌<◌, ◌≤◌, ◌+◌, ◌-◌, ◌++◌, ◌&&◌, Bool, true, false, if◌then◌else◌, List, [], ◌∷◌, get_or, length, map, take, Option, Some, None, refl, sym, ap, arith}
use Rattle.std.proofs.Math.Seq.{take-suc}
use Rattle.std.proofs.lemmas.List.{map-append}
use Rattle.timefd_lang_component.specs.Reserved.{tree_count, trees_count}
use Rattle.timefd_lang_component.specs.Tree.{Tree, Trees, component, literal, compound, optional, first, trees}
use Rattle.timefd_lang_node_list.proofs.NodeLemmas.{trees_count-append}
use Rattle.timefd_lang_warnings.specs.declared.settled.bound.Bound.{Bound}
use Rattle.timefd_lang_warnings.specs.Settling.Reached.{reached, reached_all}
use Rattle.timefd_lang_warnings.specs.Settling.Settled.{begin, begin_all, settled, settled_all}

begin_last : (ts : List Tree) (t : Tree) (known : Bound)
    → begin_all (trees (ts ++ t ∷ [])) known ≡ begin_all (trees ts) (begin t known)
begin_last [] t known = refl
begin_last (u ∷ ts) t known = ap (begin u) (begin_last ts t known)

swapped : (a b c : Bool) → a && (b && c) ≡ b && (a && c)
swapped true true c = refl
swapped true false c = refl
swapped false true c = refl
swapped false false c = refl

settled_last : (ts : List Tree) (t : Tree) (known : Bound)
    → settled_all (trees (ts ++ t ∷ [])) known ≡ settled t known && settled_all (trees ts) (begin t known)
settled_last [] t known = refl
settled_last (u ∷ ts) t known =
    ap (λ b. settled u b && settled_all (trees (ts ++ t ∷ [])) known) (begin_last ts t known)
    ∙ ap (λ b. settled u (begin_all (trees ts) (begin t known)) && b) (settled_last ts t known)
    ∙ swapped (settled u (begin_all (trees ts) (begin t known))) (settled t known)
    (settled_all (trees ts) (begin t known))

-- the result depends only on what a part returns
abbrev pub after : Trees → Option Bound → Option Bound
after ts None = None
after ts (Some b) = reached_all ts b

both_settled : (a b : Bool) (x y : Bound) (ts : Trees) → settled_all ts x ≡ b → begin_all ts x ≡ y
    → (if a && b then Some y else None) ≡ after ts (if a then Some x else None)
both_settled true b x y ts e f = ap (λ s. if s then Some y else None) (sym e) ∙ ap (λ z. if settled_all ts x then Some z else None) (sym f)
both_settled false b x y ts e f = refl

pub reached_last : (ts : List Tree) (t : Tree) (known : Bound)
    → reached_all (trees (ts ++ t ∷ [])) known ≡ after (trees ts) (reached t known)
reached_last ts t known =
    ap (λ s. if s then Some (begin_all (trees (ts ++ t ∷ [])) known) else None) (settled_last ts t known)
    ∙ both_settled (settled t known) (settled_all (trees ts) (begin t known)) (begin t known)
    (begin_all (trees (ts ++ t ∷ [])) known) (trees ts) refl (sym (begin_last ts t known))

-- one more part, of all that are left
pub one_more : (all ts : List Tree) (t : Tree) (known b : Bound) → all ≡ ts ++ t ∷ [] → reached t known ≡ Some b
    → reached_all (trees ts) b ≡ reached_all (trees all) known
one_more all ts t known b e r =
    sym (ap (λ us. reached_all (trees us) known) e ∙ reached_last ts t known ∙ ap (after (trees ts)) r)

pub no_more : (all ts : List Tree) (t : Tree) (known : Bound) → all ≡ ts ++ t ∷ [] → reached t known ≡ None
    → reached_all (trees all) known ≡ None
no_more all ts t known e r =
    ap (λ us. reached_all (trees us) known) e ∙ reached_last ts t known ∙ ap (after (trees ts)) r

pub count_last : (all ts : List Tree) (t : Tree) → all ≡ ts ++ t ∷ []
    → trees_count (trees all) ≡ trees_count (trees ts) + tree_count t
count_last all ts t e = ap (λ us. trees_count (trees us)) e ∙ trees_count-append ts (t ∷ []) ∙ omega arith

-- a tree has at least one part
pub some_parts : (t : Tree) → 0 < tree_count t
some_parts (component c) = omega arith
some_parts (literal bytes) = omega arith
some_parts (compound ts) = omega arith
some_parts (optional format t) = omega arith
some_parts (first ts) = omega arith

-- items: those before an index, and the one at it
module _ {A : Type 0} (tree : A → Tree) (xs : List A) (left : ℕ) (x : A) (some : 0 < left)
    (inside : left ≤ length xs) (is : x ≡ get_or xs (left - 1) x) where
  pub cut : map tree (take left xs) ≡ map tree (take (left - 1) xs) ++ tree x ∷ []
  cut =
      let last : left ≡ suc (left - 1) = omega (arith, some) in
      ap (λ n. map tree (take n xs)) last
      ∙ ap (map tree) (take-suc xs (left - 1) x (omega (arith, some, inside)))
      ∙ ap (λ y. map tree (take (left - 1) xs ++ y ∷ [])) (sym is)
      ∙ map-append tree (take (left - 1) xs) (x ∷ [])
