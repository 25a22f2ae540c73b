-- Trees added to a list of nodes, trees taken off a list, and a description's one tree.
use Rattle.std.proofs.Common.{◌≡◌, ◌∙◌, ℕ, zero, suc, ◌+◌, ◌-◌, ◌<◌, ◌≤◌, Bool, true, false, List, [], ◌∷◌, ◌++◌, map, length, take, drop}
use Rattle.std.proofs.Common.{get_or, is_some, vec_len, vec_capacity, refl, ◌==◌, sym, ap, append_assoc, arith, length-append}
use Rattle.std.proofs.lemmas.Bool.Decides.{nat_tests}
use Rattle.std.proofs.lemmas.List.{map-append}
use Rattle.timefd_items.specs.declared.format_description_v3.inner.FormatDescriptionV3Inner.{FormatDescriptionV3Inner}
use Rattle.timefd_lang_node_list.specs.declared.node_list.NodeList.{NodeList}
use Rattle.timefd_items.specs.Meaning.{inner_tree}
use Rattle.timefd_lang_node_list.specs.Nodes.{Part, arity, made, before, ending, grown}
use Rattle.timefd_lang_node_list.specs.NodeTrees.{Adds, AddsNode, HasRoom, list_trees}
use Rattle.timefd_lang_component.specs.Reserved.{tree_count, trees_count, within}
use Rattle.timefd_lang_component.specs.Tree.{Tree, component, literal, compound, first, optional, trees, pack, no_trees, more_trees, is_none}
use Rattle.timefd_lang_node_list.proofs.NodeLemmas.{before_zero, before-append, ending-append}

-- Adding.
append_nil : (ts : List Tree) → ts ++ [] ≡ ts
append_nil [] = refl
append_nil (t ∷ ts) = ap (λ us. t ∷ us) (append_nil ts)

pub adds_leaf : (old new : NodeList) (t : Tree) → tree_count t ≡ 1
    → list_trees new ≡ before 0 (list_trees old) ++ t ∷ [] → AddsNode old new
    → Adds old new (t ∷ [])
adds_leaf old new t one e n = record {
  after = e ∙ ap (λ us. us ++ t ∷ []) (before_zero (list_trees old));
  nodes = omega (arith, n.nodes, one);
  capacity = n.capacity;
}

-- Of all these trees some are left to be added.
pub record Adding (old new : NodeList) (left all : List Tree) : Type 0 where
  pub after : list_trees new ++ left ≡ list_trees old ++ all
  pub nodes : vec_len new.nodes + trees_count (trees left) ≡ vec_len old.nodes + trees_count
      (trees all)
  pub capacity : vec_capacity new.nodes ≡ vec_capacity old.nodes

pub adding_none : (l : NodeList) (all : List Tree) → Adding l l all all
adding_none l all = record { after = refl; nodes = refl; capacity = refl }

pub adding_room : (a b : NodeList) (t : Tree) (left rest all : List Tree) → Adding a b left all
    → left ≡ t ∷ rest → HasRoom a (trees_count (trees all)) → HasRoom b (tree_count t)
adding_room a b t left rest all h e room =
    omega (arith, h.nodes, h.capacity, room, ap (λ ts. trees_count (trees ts)) e)

pub adding_more : (a b c : NodeList) (t : Tree) (left rest all : List Tree) → Adding a b left all
    → left ≡ t ∷ rest → Adds b c (t ∷ []) → Adding a c rest all
adding_more a b c t left rest all h e g = record {
  after = ap (λ ts. ts ++ rest) g.after ∙ append_assoc (list_trees b) (t ∷ []) rest ∙
      ap (λ ts. list_trees b ++ ts) (sym e) ∙ h.after;
  nodes = omega (arith, h.nodes, g.nodes, ap (λ ts. trees_count (trees ts)) e);
  capacity = g.capacity ∙ h.capacity;
}

pub adding_done : (a b : NodeList) (left all : List Tree) → Adding a b left all → left ≡ []
    → Adds a b all
adding_done a b left all h e = record {
  after = sym (append_nil (list_trees b)) ∙ ap (λ ts. list_trees b ++ ts) (sym e) ∙ h.after;
  nodes = omega (arith, h.nodes, ap (λ ts. trees_count (trees ts)) e);
  capacity = h.capacity;
}

pub adds_made : (make : List Tree → Tree) (a b c : NodeList) (us : List Tree) (k : ℕ) → Adds a b us
    → k ≡ length us → tree_count (make us) ≡ 1 + trees_count (trees us)
    → list_trees c ≡ before k (list_trees b) ++ make (ending k (list_trees b)) ∷ [] → AddsNode b c
    → Adds a c (make us ∷ [])
adds_made make a b c us k h long count e n =
    let front : before k (list_trees b) ≡ list_trees a = ap (λ ts. before k ts) h.after ∙
    before-append (list_trees a) us k long in
    let members : ending k (list_trees b) ≡ us = ap (λ ts. ending k ts) h.after ∙
    ending-append (list_trees a) us k long in
    record {
      after = e ∙ ap (λ ts. ts ++ make (ending k (list_trees b)) ∷ []) front ∙
          ap (λ ts. list_trees a ++ make ts ∷ []) members;
      nodes = omega (arith, h.nodes, n.nodes, count);
      capacity = n.capacity ∙ h.capacity;
    }

pub adds_length : (a b : NodeList) (us : List Tree) → Adds a b us
    → length us ≤ length (list_trees b)
adds_length a b us h = omega (arith, ap length h.after, length-append (list_trees a) us)

pub length-inner_trees : (xs : List FormatDescriptionV3Inner)
    → length (map inner_tree xs) ≡ length xs
length-inner_trees [] = refl
length-inner_trees (x ∷ xs) = ap suc (length-inner_trees xs)

-- a member has no more trees than all of them
pub member_count : (xs : List FormatDescriptionV3Inner) (i : ℕ) (x : FormatDescriptionV3Inner)
    → i < length xs → x ≡ get_or xs i x
    → tree_count (inner_tree x) ≤ trees_count (trees (map inner_tree xs))
member_count [] i x h e = absurd (omega (arith, h))
member_count (y ∷ ys) zero x h e = omega (arith, ap (λ z. tree_count (inner_tree z)) e)
member_count (y ∷ ys) (suc i) x h e = omega (arith, member_count ys i x (omega (arith, h)) e)

-- nor than all from its index on
pub member_left : (xs : List FormatDescriptionV3Inner) (i : ℕ) (x : FormatDescriptionV3Inner)
    → i < length xs → x ≡ get_or xs i x
    → tree_count (inner_tree x) ≤ trees_count (trees (map inner_tree (drop i xs)))
member_left [] i x h e = absurd (omega (arith, h))
member_left (y ∷ ys) zero x h e = omega (arith, ap (λ z. tree_count (inner_tree z)) e)
member_left (y ∷ ys) (suc i) x h e = member_left ys i x (omega (arith, h)) e

-- The members taken off a list of trees.
map-take : (n : ℕ) (xs : List FormatDescriptionV3Inner)
    → map inner_tree (take n xs) ≡ take n (map inner_tree xs)
map-take zero xs = refl
map-take (suc n) [] = refl
map-take (suc n) (x ∷ xs) = ap (λ ts. inner_tree x ∷ ts) (map-take n xs)

map-drop : (n : ℕ) (xs : List FormatDescriptionV3Inner)
    → map inner_tree (drop n xs) ≡ drop n (map inner_tree xs)
map-drop zero xs = refl
map-drop (suc n) [] = refl
map-drop (suc n) (x ∷ xs) = map-drop n xs

pub before_taken : (k n : ℕ) (xs ys : List FormatDescriptionV3Inner) → n ≡ length xs
    → ys ≡ take (n - k) xs → map inner_tree ys ≡ before k (map inner_tree xs)
before_taken k n xs ys l e =
    ap (λ zs. map inner_tree zs) e ∙ map-take (n - k) xs ∙
    ap (λ m. take (m - k) (map inner_tree xs)) (l ∙ sym (length-inner_trees xs))

pub ending_taken : (k n : ℕ) (xs ys : List FormatDescriptionV3Inner) → n ≡ length xs
    → ys ≡ drop (n - k) xs → map inner_tree ys ≡ ending k (map inner_tree xs)
ending_taken k n xs ys l e =
    ap (λ zs. map inner_tree zs) e ∙ map-drop (n - k) xs ∙
    ap (λ m. drop (m - k) (map inner_tree xs)) (l ∙ sym (length-inner_trees xs))

pub popped_some : (xs rest : List FormatDescriptionV3Inner) (t : FormatDescriptionV3Inner)
    (ts : List Tree) → map inner_tree xs ≡ ts → length ts ≤ 1 → xs ≡ rest ++ t ∷ []
    → inner_tree t ≡ pack ts
popped_some xs [] t ts e h is = ap pack (sym (ap (λ ys. map inner_tree ys) is) ∙ e)
popped_some xs (r ∷ rest) t ts e h is =
    absurd (omega (
      arith,
      h,
      ap length e,
      length-inner_trees xs,
      ap length is,
      length-append rest (t ∷ []),
    ))

pub popped_none : (xs : List FormatDescriptionV3Inner) (ts : List Tree) → map inner_tree xs ≡ ts
    → length xs ≡ 0 → compound (trees []) ≡ pack ts
popped_none [] ts e h = ap pack e
popped_none (x ∷ xs) ts e h = absurd (omega (arith, h))

pub within_some : (limit bytes : ℕ) → is_some (within limit bytes) ≡ true → bytes ≤ limit
within_some limit bytes h = grind (arith, nat_tests)

pub within_none : (limit bytes : ℕ) → is_some (within limit bytes) ≡ false → limit < bytes
within_none limit bytes h = grind (arith, nat_tests)

pub no_trees_in : (t : Tree) → is_none t ≡ true → t ≡ compound no_trees
no_trees_in (compound no_trees) h = refl
no_trees_in (compound (more_trees t ts)) h = cc
no_trees_in (component c) h = cc
no_trees_in (literal bytes) h = cc
no_trees_in (optional format t) h = cc
no_trees_in (first ts) h = cc

pub last_taken : (xs rest : List FormatDescriptionV3Inner) (t : FormatDescriptionV3Inner)
    → xs ≡ rest ++ t ∷ [] → inner_tree t ≡ pack (ending 1 (map inner_tree xs))
last_taken xs rest t e =
    sym (ap pack (ap (λ ys. ending 1 (map inner_tree ys)) e ∙
    ap (λ ts. ending 1 ts) (map-append inner_tree rest (t ∷ [])) ∙
    ending-append (map inner_tree rest) (inner_tree t ∷ []) 1 refl))

pub last_left : (xs rest : List FormatDescriptionV3Inner) (t : FormatDescriptionV3Inner)
    → xs ≡ rest ++ t ∷ [] → map inner_tree rest ≡ before 1 (map inner_tree xs)
last_left xs rest t e =
    sym (ap (λ ys. before 1 (map inner_tree ys)) e ∙
    ap (λ ts. before 1 ts) (map-append inner_tree rest (t ∷ [])) ∙
    before-append (map inner_tree rest) (inner_tree t ∷ []) 1 refl)

not_none : (n : ℕ) → (suc n == 0) ≡ false
not_none n = grind (arith, nat_tests)

pub none_by_length : (xs : List FormatDescriptionV3Inner) (b : Bool) → b ≡ (length xs == 0)
    → b ≡ is_none (compound (trees (map inner_tree xs)))
none_by_length [] b e = e
none_by_length (x ∷ xs) b e = e ∙ not_none (length xs)

-- a node's tree after those that it left
pub tree_pushed : (xs ys zs : List FormatDescriptionV3Inner) (t : FormatDescriptionV3Inner)
    (p : Part) (ts : List Tree) → zs ≡ ys ++ t ∷ []
    → map inner_tree ys ≡ before (arity p.role) (map inner_tree xs)
    → inner_tree t ≡ made p.role (ending (arity p.role) (map inner_tree xs))
    → map inner_tree xs ≡ ts
    → map inner_tree zs ≡ grown ts p
tree_pushed xs ys zs t p ts is left made_of e =
    ap (λ vs. map inner_tree vs) is
    ∙ map-append inner_tree ys (t ∷ [])
    ∙ ap (λ vs. vs ++ inner_tree t ∷ []) left
    ∙ ap (λ u. before (arity p.role) (map inner_tree xs) ++ u ∷ []) made_of
    ∙ ap (λ vs. grown vs p) e
