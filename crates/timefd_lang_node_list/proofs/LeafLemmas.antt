-- The leaves of trees side by side, when the last node is opened.
use Rattle.std.proofs.Common.{◌≡◌, ◌∙◌, ℕ, zero, suc, ◌-◌, ◌≤◌, true, false, List, [], ◌∷◌, ◌++◌, length, take, drop, refl, sym, ap, append_assoc, append-nil, arith}
use Rattle.std.proofs.lemmas.List.{take-append-drop, take_all}
use Rattle.timefd_lang_node_list.specs.Nodes.{Part, Role, text, shown, together, perhaps, either, arity, made, before, ending, grown}
use Rattle.timefd_lang_component.specs.Tree.{Tree, literal, compound, optional, first, trees, pack}
use Rattle.timefd_lang_node_list.specs.Leaves.{leaves, leaves_first, leaves_in, role_leaves, unwritten}
use Rattle.timefd_lang_node_list.proofs.NodeLemmas.{before_zero, length-ending}

pub leaves_append : (ts us : List Tree) → leaves_in (ts ++ us) ≡ leaves_in ts ++ leaves_in us
leaves_append [] us = refl
leaves_append (t ∷ ts) us =
    ap (λ x. leaves t ++ x) (leaves_append ts us) ∙ sym (append_assoc (leaves t) (leaves_in ts) (leaves_in us))

leaves_last : (ts : List Tree) (t : Tree) → leaves_in (ts ++ t ∷ []) ≡ leaves_in ts ++ leaves t
leaves_last ts t = leaves_append ts (t ∷ []) ∙ ap (λ x. leaves_in ts ++ x) (append-nil (leaves t))

-- the leaves of all trees are those of the first ones, and then of the last ones
leaves_cut : (us : List Tree) (k : ℕ) → leaves_in (before k us) ++ leaves_in (ending k us) ≡ leaves_in us
leaves_cut us k = sym (leaves_append (before k us) (ending k us))
    ∙ ap leaves_in (take-append-drop (length us - k) us)

leaves_pack : (us : List Tree) → length us ≡ 1 → leaves (pack us) ≡ leaves_in us
leaves_pack [] h = refl
leaves_pack (t ∷ []) h = sym (append-nil (leaves t))
leaves_pack (t ∷ u ∷ us) h = refl

first_of : (us : List Tree) → leaves_first (trees us) ≡ leaves_in (take 1 us)
first_of [] = refl
first_of (t ∷ us) = sym (append-nil (leaves t))

one_further : (n : ℕ) (us : List Tree) → take n us ++ take 1 (drop n us) ≡ take (suc n) us
one_further zero us = refl
one_further (suc n) [] = refl
one_further (suc n) (u ∷ us) = ap (λ x. u ∷ x) (one_further n us)

-- the first of the last trees, if there is one, after those before them
first_after : (us : List Tree) (k : ℕ) → k ≤ length us
    → before k us ++ take 1 (ending k us) ≡ before (k - 1) us
first_after us zero h =
    one_further (length us - 0) us ∙ take_all (suc (length us - 0)) us (omega arith) ∙
    sym (take_all (length us - 0) us (omega arith))
first_after us (suc k) h =
    let e : suc (length us - suc k) ≡ length us - (suc k - 1) = omega (arith, h) in
    one_further (length us - suc k) us ∙ ap (λ n. take n us) e

none_in_front : (us : List Tree) → leaves_in us ≡ leaves_in (before 0 us)
none_in_front us = ap leaves_in (sym (before_zero us))

pub opened : (us : List Tree) (p : Part) → arity p.role ≤ length us → role_leaves p.role ≡ []
    → leaves_in (grown us p) ≡ leaves_in (before (unwritten p.role) us)
opened us p h none = by p.role h none
  where
    by : (r : Role) → arity r ≤ length us → role_leaves r ≡ []
        → leaves_in (before (arity r) us ++ made r (ending (arity r) us) ∷ []) ≡ leaves_in (before (unwritten r) us)
    by (text bytes) h none = absurd cc
    by (shown c) h none = absurd cc
    by (together count) h none =
        leaves_last (before count us) (compound (trees (ending count us))) ∙ leaves_cut us count ∙ none_in_front us
    by (perhaps true) h none =
        leaves_last (before 1 us) (optional true (pack (ending 1 us))) ∙
        ap (λ x. leaves_in (before 1 us) ++ x) (leaves_pack (ending 1 us) (length-ending 1 us h)) ∙
        leaves_cut us 1 ∙ none_in_front us
    by (perhaps false) h none =
        leaves_last (before 1 us) (optional false (pack (ending 1 us))) ∙ append-nil (leaves_in (before 1 us))
    by (either count) h none =
        leaves_last (before count us) (first (trees (ending count us))) ∙
        ap (λ x. leaves_in (before count us) ++ x) (first_of (ending count us)) ∙
        sym (leaves_append (before count us) (take 1 (ending count us))) ∙
        ap leaves_in (first_after us count h)

pub leaf_after : (us : List Tree) (p : Part) (t : Tree) → role_leaves p.role ≡ t ∷ []
    → leaves_in (grown us p) ≡ leaves_in us ++ t ∷ []
leaf_after us p t is = by p.role is
  where
    by : (r : Role) → role_leaves r ≡ t ∷ []
        → leaves_in (before (arity r) us ++ made r (ending (arity r) us) ∷ []) ≡ leaves_in us ++ t ∷ []
    by (text bytes) is = leaves_last (before 0 us) (literal bytes) ∙
        ap (λ xs. xs ++ literal bytes ∷ []) (sym (none_in_front us)) ∙ ap (λ x. leaves_in us ++ x) is
    by (shown c) is = leaves_last (before 0 us) (made (shown c) (ending 0 us)) ∙
        ap (λ xs. xs ++ made (shown c) (ending 0 us) ∷ []) (sym (none_in_front us)) ∙ ap (λ x. leaves_in us ++ x) is
    by (together count) is = absurd cc
    by (perhaps format) is = absurd cc
    by (either count) is = absurd cc

pub leaves_packed : (us : List Tree) → leaves (pack us) ≡ leaves_in us
leaves_packed [] = refl
leaves_packed (t ∷ []) = sym (append-nil (leaves t))
leaves_packed (t ∷ u ∷ us) = refl

pub at_leaf : (whole left us fs : List Tree) (p : Part) (t : Tree) → whole ≡ leaves_in us → us ≡ grown fs p
    → role_leaves p.role ≡ t ∷ [] → left ≡ leaves_in fs → whole ≡ left ++ t ∷ []
at_leaf whole left us fs p t is read leaf rest =
    is ∙ ap leaves_in read ∙ leaf_after fs p t leaf ∙ ap (λ x. x ++ t ∷ []) (sym rest)

pub at_inner : (whole us fs rest : List Tree) (p : Part) (k : ℕ) → whole ≡ leaves_in us → us ≡ grown fs p
    → arity p.role ≤ length fs → role_leaves p.role ≡ [] → k ≡ unwritten p.role → rest ≡ before k fs
    → whole ≡ leaves_in rest
at_inner whole us fs rest p k is read fits none count left =
    is ∙ ap leaves_in read ∙ opened fs p fits none ∙ ap (λ n. leaves_in (before n fs)) (sym count) ∙
    ap leaves_in (sym left)
