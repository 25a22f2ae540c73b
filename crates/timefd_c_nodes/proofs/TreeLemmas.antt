-- Trees, their parts, and their nodes.
use Rattle.std.proofs.Common.{◌≡◌, ◌∙◌, Bool, ℕ, zero, suc, ◌+◌, ◌-◌, ◌<◌, ◌≤◌, List, [], ◌∷◌, ◌++◌, length, map, drop, get_or, min, refl, sym, ap, subst, arith, length-append}
use Rattle.std.proofs.lemmas.List.{drop_all, drop_more}
use Rattle.timefd_modifier.specs.declared.enums.SubsecondDigits.{SubsecondDigits}
use Rattle.timefd_lang_component.specs.declared.component.Component.{Component}
use Rattle.timefd_lang_component.specs.declared.component.Component.TheVariants.{Subsecond}
use Rattle.timefd_lang_node_list.specs.Nodes.{kept_bytes}
use Rattle.timefd_lang_component.specs.Reserved.{reserve, reserved, tree_count, trees_count, digits_shown}
use Rattle.timefd_lang_component.specs.Tree.{Tree, component, literal, compound, optional, first, Trees, no_trees, more_trees, trees}
use Rattle.timefd_lang_node_list.specs.Views.{walked, walked_all}
use Rattle.timefd_c_nodes.specs.declared.node.RawNode.{RawNode}
use Rattle.timefd_c_nodes.specs.Encoding.{component_table, compound_node, digits_number, first_node, node_for, optional_node, trees_len}

pub shown_digits : (d : SubsecondDigits) → min (digits_number d) 9 ≡ digits_shown d
shown_digits SubsecondDigits.One = refl
shown_digits SubsecondDigits.Two = refl
shown_digits SubsecondDigits.Three = refl
shown_digits SubsecondDigits.Four = refl
shown_digits SubsecondDigits.Five = refl
shown_digits SubsecondDigits.Six = refl
shown_digits SubsecondDigits.Seven = refl
shown_digits SubsecondDigits.Eight = refl
shown_digits SubsecondDigits.Nine = refl
shown_digits SubsecondDigits.OneOrMore = refl

-- the table has what a component reserves
pub table_bytes : (c : Component) → (component_table c).bytes ≡ reserved c
table_bytes (Subsecond s) = refl
table_bytes c = refl

digits_kept : (d : SubsecondDigits) → digits_shown d ≡ kept_bytes (digits_shown d)
digits_kept SubsecondDigits.One = refl
digits_kept SubsecondDigits.Two = refl
digits_kept SubsecondDigits.Three = refl
digits_kept SubsecondDigits.Four = refl
digits_kept SubsecondDigits.Five = refl
digits_kept SubsecondDigits.Six = refl
digits_kept SubsecondDigits.Seven = refl
digits_kept SubsecondDigits.Eight = refl
digits_kept SubsecondDigits.Nine = refl
digits_kept SubsecondDigits.OneOrMore = refl

-- a `usize` counts what a component reserves
pub reserved_kept : (c : Component) → reserved c ≡ kept_bytes (reserved c)
reserved_kept (Subsecond s) = digits_kept s.digits
reserved_kept c = refl

pub trees_len_is : (ts : List Tree) → trees_len (trees ts) ≡ length ts
trees_len_is [] = refl
trees_len_is (t ∷ ts) = omega (arith, trees_len_is ts)

-- a tree has as many parts as are walked
mutual
  pub walked_length : (t : Tree) → length (walked t) ≡ tree_count t
  walked_length (component c) = refl
  walked_length (literal bytes) = refl
  walked_length (compound ts) = omega (
    arith,
    length-append (walked_all ts) (compound ts ∷ []),
    walked_all_length ts,
  )
  walked_length (optional format t) =
      omega (arith, length-append (walked t) (optional format t ∷ []), walked_length t)
  walked_length (first ts) = omega (
    arith,
    length-append (walked_all ts) (first ts ∷ []),
    walked_all_length ts,
  )

  pub walked_all_length : (ts : Trees) → length (walked_all ts) ≡ trees_count ts
  walked_all_length no_trees = refl
  walked_all_length (more_trees t ts) =
      omega (arith, length-append (walked t) (walked_all ts), walked_length t, walked_all_length ts)

-- the trees from one item on
pub walked_at : {A : Type 0} (tree : A → Tree) (items : List A) (at : ℕ) (x : A) → at < length items
    → x ≡ get_or items at x
    → walked_all (trees (map tree (drop at items))) ≡ walked (tree x) ++ walked_all
    (trees (map tree (drop (at + 1) items)))
walked_at tree items at x below is =
    ap (λ xs. walked_all (trees (map tree xs)))
    (drop_more items at x below ∙ ap (λ y. y ∷ drop (at + 1) items) (sym is))

pub none_at : {A : Type 0} (tree : A → Tree) (items : List A) (at : ℕ) → length items ≤ at
    → walked_all (trees (map tree (drop at items))) ≡ []
none_at tree items at h = ap (λ xs. walked_all (trees (map tree xs))) (drop_all at items h)

-- The nodes of parts with members.

pub compound_is : (v : Tree) (ms : List Tree) (at used start bytes len : ℕ) (n : RawNode)
    → compound (trees ms) ≡ v → start ≡ at - (tree_count v - 1) → bytes ≡ kept_bytes (reserve v)
    → len ≡ length ms
    → n ≡ compound_node start len bytes → n ≡ node_for at used v
compound_is v ms at used start bytes len n e starts reserves long is =
    is ∙ subst (λ x. start ≡ at - (tree_count x - 1) → bytes ≡ kept_bytes (reserve x)
    → compound_node start len bytes ≡ node_for at used x) e at_members starts reserves
  where
    at_members : start ≡ at - (tree_count (compound (trees ms)) - 1)
        → bytes ≡ kept_bytes (reserve (compound (trees ms)))
        → compound_node start len bytes ≡ node_for at used (compound (trees ms))
    at_members s b =
        let first_is : start ≡ at - trees_count (trees ms) = omega (arith, s) in
        ap (λ x. compound_node x len bytes) first_is
        ∙ ap (λ x. compound_node (at - trees_count (trees ms)) x bytes)
        (long ∙ sym (trees_len_is ms))
        ∙ ap (λ x. compound_node (at - trees_count (trees ms)) (trees_len (trees ms)) x) b

pub first_is : (v : Tree) (ms : List Tree) (at used start bytes len : ℕ) (n : RawNode)
    → first (trees ms) ≡ v → start ≡ at - (tree_count v - 1) → bytes ≡ kept_bytes (reserve v)
    → len ≡ length ms
    → n ≡ first_node start len bytes → n ≡ node_for at used v
first_is v ms at used start bytes len n e starts reserves long is =
    is ∙ subst (λ x. start ≡ at - (tree_count x - 1) → bytes ≡ kept_bytes (reserve x)
    → first_node start len bytes ≡ node_for at used x) e at_members starts reserves
  where
    at_members : start ≡ at - (tree_count (first (trees ms)) - 1)
        → bytes ≡ kept_bytes (reserve (first (trees ms)))
        → first_node start len bytes ≡ node_for at used (first (trees ms))
    at_members s b =
        let begins : start ≡ at - trees_count (trees ms) = omega (arith, s) in
        ap (λ x. first_node x len bytes) begins
        ∙ ap (λ x. first_node (at - trees_count (trees ms)) x bytes) (long ∙ sym (trees_len_is ms))
        ∙ ap (λ x. first_node (at - trees_count (trees ms)) (trees_len (trees ms)) x) b

-- The same, if it is known at which position the members begin.

pub compound_after : (ts : List Tree) (from mid used bytes len : ℕ) (n : RawNode)
    → mid ≡ from + length (walked_all (trees ts)) → len ≡ length ts
    → bytes ≡ kept_bytes (reserve (compound (trees ts)))
    → n ≡ compound_node from len bytes → n ≡ node_for mid used (compound (trees ts))
compound_after ts from mid used bytes len n after long reserves is =
    compound_is (compound (trees ts)) ts mid used from bytes len n refl
    (omega (arith, after, walked_all_length (trees ts))) reserves long is

pub first_after : (ts : List Tree) (from mid used bytes len : ℕ) (n : RawNode)
    → mid ≡ from + length (walked_all (trees ts)) → len ≡ length ts
    → bytes ≡ kept_bytes (reserve (first (trees ts)))
    → n ≡ first_node from len bytes → n ≡ node_for mid used (first (trees ts))
first_after ts from mid used bytes len n after long reserves is =
    first_is (first (trees ts)) ts mid used from bytes len n refl
    (omega (arith, after, walked_all_length (trees ts))) reserves long is

pub optional_after : (t : Tree) (format : Bool) (from mid used bytes : ℕ) (n : RawNode)
    → mid ≡ from + length (walked t) → bytes ≡ kept_bytes (reserve (optional format t))
    → n ≡ optional_node from format bytes → n ≡ node_for mid used (optional format t)
optional_after t format from mid used bytes n after reserves is =
    let start : from ≡ mid - tree_count t = omega (arith, after, walked_length t) in
    is ∙ ap (λ x. optional_node x format bytes) start ∙
    ap (λ x. optional_node (mid - tree_count t) format x) reserves

-- an item has at most as many parts as all items
pub count_below : {A : Type 0} (tree : A → Tree) (items : List A) (at : ℕ) (x : A)
    → at < length items → x ≡ get_or items at x
    → tree_count (tree x) ≤ trees_count (trees (map tree items))
count_below tree [] at x below is = absurd (omega (arith, below))
count_below tree (y ∷ items) zero x below is = omega (arith, ap (λ z. tree_count (tree z)) is)
count_below tree (y ∷ items) (suc at) x below is =
    omega (arith, count_below tree items at x (omega (arith, below)) is)
