-- The trees of the nodes, one after another, are all parts of the trees that they are.
use Rattle.std.proofs.Common.{◌≡◌, ◌∙◌, ℕ, zero, suc, ◌+◌, ◌-◌, ◌<◌, ◌≤◌, List, [], ◌∷◌, ◌++◌, map, length, take, drop, refl, sym, ap}
use Rattle.std.proofs.Common.{append_assoc, arith, get_or}
use Rattle.std.proofs.lemmas.List.{append-nil, take-append-drop, drop_all, length-take-le}
use Rattle.timefd_lang_node_list.specs.declared.node.Node.{Node}
use Rattle.timefd_lang_node_list.specs.declared.view.View.{View}
use Rattle.timefd_lang_node_list.specs.Nodes.{Role, text, shown, together, perhaps, either, arity, Part, part, made, before, ending, grown}
use Rattle.timefd_lang_node_list.specs.Nodes.{grown_by, Fits, Fit}
use Rattle.timefd_lang_component.specs.Reserved.{trees_count}
use Rattle.timefd_lang_component.specs.Tree.{Tree, trees, pack}
use Rattle.timefd_lang_node_list.specs.Views.{walked, walked_all, made_each, view_tree, walk_from}
use Rattle.timefd_lang_node_list.proofs.ViewLemmas.{Cut, cut}
use Rattle.timefd_lang_node_list.proofs.NodeLemmas.{made-count, count_inside, length-ending, ending-append, fit_take, fits_at, grown_at}
use Rattle.timefd_lang_node_list.proofs.NodeLemmas.{grown_some, length-parts}

walked_all-append : (ts us : List Tree)
    → walked_all (trees (ts ++ us)) ≡ walked_all (trees ts) ++ walked_all (trees us)
walked_all-append [] us = refl
walked_all-append (t ∷ ts) us = ap (λ xs. walked t ++ xs) (walked_all-append ts us) ∙
    sym (append_assoc (walked t) (walked_all (trees ts)) (walked_all (trees us)))

one_walked : (us : List Tree) → length us ≡ 1 → walked (pack us) ≡ walked_all (trees us)
one_walked [] h = absurd (omega (arith, h))
one_walked (u ∷ []) h = sym (append-nil (walked u))
one_walked (u ∷ v ∷ us) h = absurd (omega (arith, h))

none_walked : (us : List Tree) (t : Tree) → length us ≡ 0 → t ∷ [] ≡ walked_all (trees us) ++ t ∷ []
none_walked [] t h = refl
none_walked (u ∷ us) t h = absurd (omega (arith, h))

-- a tree is walked after its members
made_walked : (r : Role) (us : List Tree) → length us ≡ arity r
    → walked (made r us) ≡ walked_all (trees us) ++ made r us ∷ []
made_walked (text bytes) us h = none_walked us _ h
made_walked (shown c) us h = none_walked us _ h
made_walked (together count) us h = refl
made_walked (perhaps format) us h = ap (λ xs. xs ++ made (perhaps format) us ∷ []) (one_walked us h)
made_walked (either count) us h = refl

grown_walked : (ts : List Tree) (p : Part) → arity p.role ≤ length ts
    → walked_all (trees (grown ts p)) ≡ walked_all (trees ts) ++ made p.role
    (ending (arity p.role) ts) ∷ []
grown_walked ts p h =
    let a : ℕ = arity p.role in
    let us : List Tree = ending a ts in
    let t : Tree = made p.role us in
    walked_all-append (before a ts) (t ∷ [])
    ∙ ap (λ xs. walked_all (trees (before a ts)) ++ xs) (append-nil (walked t) ∙
    made_walked p.role us (length-ending a ts h))
    ∙ sym (append_assoc (walked_all (trees (before a ts))) (walked_all (trees us)) (t ∷ []))
    ∙ ap (λ xs. xs ++ t ∷ []) (sym (walked_all-append (before a ts) us) ∙
    ap (λ xs. walked_all (trees xs)) (take-append-drop (length ts - a) ts))

each_walked : (ts : List Tree) (ps : List Part) → Fit ts ps
    → walked_all (trees (grown_by ts ps)) ≡ walked_all (trees ts) ++ made_each ts ps
each_walked ts [] f = sym (append-nil (walked_all (trees ts)))
each_walked ts (p ∷ ps) f =
    let t : Tree = made p.role (ending (arity p.role) ts) in
    each_walked (grown ts p) ps f.1
    ∙ ap (λ xs. xs ++ made_each (grown ts p) ps) (grown_walked ts p f.0.0)
    ∙ append_assoc (walked_all (trees ts)) (t ∷ []) (made_each (grown ts p) ps)

-- the parts of one tree
pub walked_one : (xs : List Node) → Fit [] (map part xs) → length (grown_by [] (map part xs)) ≤ 1
    → 1 ≤ length xs → made_each [] (map part xs) ++ [] ≡ walked (pack (grown_by [] (map part xs)))
walked_one xs f h there =
    let ts : List Tree = grown_by [] (map part xs) in
    let single : length ts ≡ 1 = omega
    (arith, h, grown_some (map part xs) (omega (arith, there, length-parts xs))) in
    append-nil (made_each [] (map part xs)) ∙ sym (each_walked [] (map part xs) f) ∙
    sym (one_walked ts single)

pub walked_none : (xs : List Node) (v : View) → length xs ≡ 0
    → view_tree v ≡ pack (grown_by [] (map part xs))
    → made_each [] (map part xs) ++ view_tree v ∷ [] ≡ walked (pack (grown_by [] (map part xs)))
walked_none [] v h e = ap (λ t. t ∷ []) e
walked_none (x ∷ xs) v h e = absurd (omega (arith, h))

-- One step of the walk.
drop_at : (xs : List Node) (i : ℕ) (n : Node) → i < length xs → n ≡ get_or xs i n
    → drop i xs ≡ n ∷ drop (suc i) xs
drop_at [] i n h e = absurd (omega (arith, h))
drop_at (x ∷ xs) zero n h e = ap (λ y. y ∷ xs) (sym e)
drop_at (x ∷ xs) (suc i) n h e = drop_at xs i n (omega (arith, h)) e

-- the tree of this node
abbrev pub tree_at : List Node → ℕ → Node → Tree
tree_at xs i n = made (part n).role
    (ending (arity (part n).role) (grown_by [] (map part (take i xs))))

pub walk_step : (xs : List Node) (i : ℕ) (n : Node) → i < length xs → n ≡ get_or xs i n
    → walk_from xs i ≡ tree_at xs i n ∷ walk_from xs (suc i)
walk_step xs i n h e =
    ap (λ ys. made_each (grown_by [] (map part (take i xs))) (map part ys)) (drop_at xs i n h e)
    ∙ ap (λ ts. tree_at xs i n ∷ made_each ts (map part (drop (suc i) xs)))
    (sym (grown_at [] xs i n h e))

pub walk_end : (xs : List Node) (i : ℕ) → length xs ≤ i → walk_from xs i ≡ []
walk_end xs i h = ap (λ ys. made_each (grown_by [] (map part (take i xs))) (map part ys))
    (drop_all i xs h)

-- the last tree of the nodes up to this one is its own
pub last_at : (xs : List Node) (i : ℕ) (n : Node) → i < length xs → n ≡ get_or xs i n
    → pack (ending 1 (grown_by [] (map part (take (suc i) xs)))) ≡ tree_at xs i n
last_at xs i n h e =
    let us : List Tree = grown_by [] (map part (take i xs)) in
    ap (λ ts. pack (ending 1 ts)) (grown_at [] xs i n h e) ∙
    ap pack (ending-append (before (arity (part n).role) us) (tree_at xs i n ∷ []) 1 refl)

-- how many nodes it has
pub nodes_at : (xs : List Node) (i : ℕ) (n : Node) → Fit [] (map part xs) → i < length xs
    → n ≡ get_or xs i n
    → 1 + (part n).nodes ≡ trees_count (trees (ending 1 (grown_by [] (map part (take (suc i) xs)))))
nodes_at xs i n f h e =
    let us : List Tree = grown_by [] (map part (take i xs)) in
    let fits : Fits us (part n) = fits_at [] xs i n f h e in
    let last : ending 1 (grown_by [] (map part (take (suc i) xs))) ≡ tree_at xs i n ∷ [] =
    ap (λ ts. ending 1 ts) (grown_at [] xs i n h e) ∙
    ending-append (before (arity (part n).role) us) (tree_at xs i n ∷ []) 1 refl in
    omega (
      arith,
      fits.1,
      ap (λ ts. trees_count (trees ts)) last,
      made-count (part n).role (ending (arity (part n).role) us)
          (length-ending (arity (part n).role) us fits.0),
    )

-- the nodes of one part, cut out
pub record PartAt (xs : List Node) (i : ℕ) (own : List Node) : Type 0 where
  pub fit : Fit [] (map part own)
  pub one : length (grown_by [] (map part own)) ≤ 1
  pub step : walk_from xs i ≡ pack (grown_by [] (map part own)) ∷ walk_from xs (i + 1)

up_to : (xs : List Node) (i : ℕ) → i < length xs
    → 1 ≤ length (grown_by [] (map part (take (suc i) xs)))
up_to xs i h = grown_some (map part (take (suc i) xs))
    (omega (arith, length-parts (take (suc i) xs), length-take-le (suc i) xs (omega (arith, h))))

pub part_inside : (xs : List Node) (i : ℕ) (n : Node) → Fit [] (map part xs) → i < length xs
    → n ≡ get_or xs i n → (part n).nodes ≤ i
part_inside xs i n f h e =
    omega (
      arith,
      nodes_at xs i n f h e,
      count_inside (map part (take (suc i) xs)) 1
          (fit_take [] xs (suc i) f) (up_to xs i h),
      length-parts (take (suc i) xs),
      length-take-le (suc i) xs (omega (arith, h)),
    )

pub part_at : (xs front own : List Node) (i inner : ℕ) (n : Node) → Fit [] (map part xs)
    → i < length xs → n ≡ get_or xs i n → inner ≡ (part n).nodes
    → front ≡ take (i + 1) xs → own ≡ drop (i - inner) front → PartAt xs i own
part_at xs front own i inner n f h e is fronts owns =
    let fs : List Node = take (suc i) xs in
    let next : i + 1 ≡ suc i = omega arith in
    let long : length fs ≡ suc i = length-take-le (suc i) xs (omega (arith, h)) in
    let position : i - inner ≡ length fs - (1 + (part n).nodes) = omega (arith, is, long) in
    let cut_there : own ≡ drop (length fs - (1 + (part n).nodes)) fs =
    owns ∙ ap (λ ys. drop (i - inner) ys) (fronts ∙ ap (λ k. take k xs) next) ∙
    ap (λ k. drop k fs) position in
    let c : Cut fs 1 (take (length fs - (1 + (part n).nodes)) fs) own =
    cut fs (take (length fs - (1 + (part n).nodes)) fs) own 1 (1 + (part n).nodes)
    (fit_take [] xs (suc i) f) (up_to xs i h) (nodes_at xs i n f h e) refl cut_there in
    record {
      fit = c.after_fit;
      one = omega (
        arith,
        ap length c.after_trees,
        length-ending 1 (grown_by [] (map part fs))
            (up_to xs i h),
      );
      step =
          walk_step xs i n h e
          ∙ ap (λ t. t ∷ walk_from xs (suc i)) (sym (last_at xs i n h e) ∙
          sym (ap pack c.after_trees))
          ∙ ap (λ k. pack (grown_by [] (map part own)) ∷ walk_from xs k) (sym next);
    }
