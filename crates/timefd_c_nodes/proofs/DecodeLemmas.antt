-- The nodes of some trees read as these trees.
use Rattle.std.proofs.Common.{◌≡◌, ◌∙◌, ℕ, ◌+◌, ◌-◌, ◌≤◌, if◌then◌else◌, List, [], ◌∷◌, ◌++◌, Option, Some, None, length, take, drop, refl, sym, ap, append_assoc, arith, length-append}
use Rattle.std.proofs.lemmas.Bool.{le-leb}
use Rattle.std.proofs.lemmas.List.{append-nil}
use Rattle.std.proofs.Math.Seq.{drop-append_seam, take-append_seam}
use Rattle.timefd_lang_component.specs.declared.component.Component.{Component}
use Rattle.timefd_lang_component.specs.declared.component.Component.TheVariants.{Subsecond}
use Rattle.timefd_lang_component.specs.Modern.{modern, IsModern, AreModern}
use Rattle.timefd_lang_component.specs.Tree.{Text, Tree, component, literal, compound, optional, first, pack, Trees, no_trees, more_trees, trees}
use Rattle.timefd_lang_node_list.specs.Views.{walked, walked_all}
use Rattle.timefd_lang_node_list.proofs.NodeLemmas.{before-append, ending-append}
use Rattle.timefd_c_nodes.specs.declared.node.RawNode.{RawNode}
use Rattle.timefd_c_nodes.specs.declared.node.TheConstants.{COMPONENT}
use Rattle.timefd_c_nodes.specs.Encoding.{component_table, component_node, node_for, nodes_from, own_text, literals_of, trees_len}
use Rattle.timefd_c_nodes.specs.Decoding.{with_component, with_members, with_node, with_optional, grown_with, read_on, read_nodes}
use Rattle.timefd_c_nodes.proofs.WriteLemmas.{literals_of-append}
use Rattle.timefd_c_nodes.proofs.ComponentLemmas.{flag_back, component_back}

pub nodes_from-append : (xs ys : List Tree) (at used : ℕ)
    → nodes_from at used (xs ++ ys) ≡ nodes_from at used xs ++ nodes_from (at + length xs)
    (used + length (literals_of xs)) ys
nodes_from-append [] ys at used =
    let a : at ≡ at + 0 = omega arith in
    let u : used ≡ used + 0 = omega arith in
    ap (λ k. nodes_from k used ys) a ∙ ap (λ k. nodes_from (at + 0) k ys) u
nodes_from-append (t ∷ xs) ys at used =
    let n : RawNode = node_for at used t in
    let next : ℕ = used + length (own_text t) in
    let a : at + 1 + length xs ≡ at + length (t ∷ xs) = omega arith in
    let u : next + length (literals_of xs) ≡ used + length (literals_of (t ∷ xs)) =
    omega (arith, length-append (own_text t) (literals_of xs)) in
    ap (λ l. n ∷ l) (nodes_from-append xs ys (at + 1) next)
    ∙ ap (λ k. n ∷ (nodes_from (at + 1) next xs ++ nodes_from k (next + length (literals_of xs))
    ys)) a
    ∙ ap (λ k. n ∷ (nodes_from (at + 1) next xs ++ nodes_from (at + length (t ∷ xs)) k ys)) u

read_on-append : (l : Text) (ns ms : List RawNode) (ts : Option (List Tree))
    → read_on l (ns ++ ms) ts ≡ read_on l ms (read_on l ns ts)
read_on-append l [] ms ts = refl
read_on-append l (n ∷ ns) ms ts = read_on-append l ns ms (grown_with l n ts)

-- what the table calls each component
table_what : (c : Component) → (component_table c).what ≡ COMPONENT
table_what (Subsecond s) = refl
table_what c = refl

component_more : (c : Component) (at : ℕ) (l : Text) (ts : List Tree) → modern c ≡ c
    → grown_with l (component_node c at) (Some ts) ≡ Some (ts ++ component c ∷ [])
component_more c at l ts h =
    ap (λ what. with_node what l (component_node c at) ts) (table_what c)
    ∙ ap (λ o. with_component o ts) (component_back c at h)
    ∙ ap (λ d. Some (ts ++ component d ∷ [])) h

-- the trees of a list of members
abbrev listed : Trees → List Tree
listed no_trees = []
listed (more_trees t ts) = t ∷ listed ts

trees_listed : (ts : Trees) → trees (listed ts) ≡ ts
trees_listed no_trees = refl
trees_listed (more_trees t ts) = ap (λ us. more_trees t us) (trees_listed ts)

listed_length : (ts : Trees) → trees_len ts ≡ length (listed ts)
listed_length no_trees = refl
listed_length (more_trees t ts) = omega (arith, listed_length ts)

literal_back : (l front bytes back : Text) (used : ℕ) → l ≡ front ++ (bytes ++ []) ++ back
    → used ≡ length front → take (length bytes) (drop used l) ≡ bytes
literal_back l front bytes back used e u =
    ap (λ k. take (length bytes) (drop k l)) u
    ∙ ap (λ x. take (length bytes) (drop (length front) x))
    (e ∙ append_assoc front (bytes ++ []) back)
    ∙ ap (λ x. take (length bytes) x) (drop-append_seam front ((bytes ++ []) ++ back))
    ∙ ap (λ x. take (length bytes) (x ++ back)) (append-nil bytes)
    ∙ take-append_seam bytes back

-- a node that takes these members
taken : (count : ℕ) (make : List Tree → Tree) (ts us : List Tree) → count ≡ length us
    → with_members count make (ts ++ us) ≡ Some (ts ++ make us ∷ [])
taken count make ts us e =
    let there : count ≤ length (ts ++ us) = omega (arith, e, length-append ts us) in
    ap (λ b. if b then Some (take (length (ts ++ us) - count) (ts ++ us) ++ make
    (drop (length (ts ++ us) - count) (ts ++ us)) ∷ []) else None)
    (le-leb count (length (ts ++ us)) there)
    ∙ ap (λ xs. Some (xs ++ make (drop (length (ts ++ us) - count) (ts ++ us)) ∷ []))
    (before-append ts us count e)
    ∙ ap (λ xs. Some (ts ++ make xs ∷ [])) (ending-append ts us count e)

-- the literals of the members are the literals of the whole
inner_literals : (xs : List Tree) (t : Tree) (l front back : Text) → own_text t ≡ []
    → l ≡ front ++ literals_of (xs ++ t ∷ []) ++ back → l ≡ front ++ literals_of xs ++ back
inner_literals xs t l front back none e =
    e
    ∙ ap (λ x. front ++ x ++ back) (literals_of-append xs (t ∷ []))
    ∙ ap (λ x. front ++ (literals_of xs ++ (x ++ [])) ++ back) none
    ∙ ap (λ x. front ++ x ++ back) (append-nil (literals_of xs))

-- members that were read, and then the node around them
around : (l : Text) (xs : List Tree) (t : Tree) (at used : ℕ) (ts us : List Tree) (count : ℕ)
    (make : List Tree → Tree) → read_on l (nodes_from at used xs) (Some ts) ≡ Some (ts ++ us)
    → grown_with l (node_for (at + length xs) (used + length (literals_of xs)) t) (Some (ts ++ us))
    ≡ with_members count make (ts ++ us)
    → count ≡ length us → make us ≡ t
    → read_on l (nodes_from at used (xs ++ t ∷ [])) (Some ts) ≡ Some (ts ++ t ∷ [])
around l xs t at used ts us count make members node counted is =
    let n : RawNode = node_for (at + length xs) (used + length (literals_of xs)) t in
    ap (λ ns. read_on l ns (Some ts)) (nodes_from-append xs (t ∷ []) at used)
    ∙ read_on-append l (nodes_from at used xs) (n ∷ []) (Some ts)
    ∙ ap (λ o. grown_with l n o) members
    ∙ node
    ∙ taken count make ts us counted
    ∙ ap (λ x. Some (ts ++ x ∷ [])) is

mutual
  tree_read : (t : Tree) (at used : ℕ) (l front back : Text) (ts : List Tree) → IsModern t
      → l ≡ front ++ literals_of (walked t) ++ back → used ≡ length front
      → read_on l (nodes_from at used (walked t)) (Some ts) ≡ Some (ts ++ t ∷ [])
  tree_read (component c) at used l front back ts h e u =
      component_more c at l ts h
  tree_read (literal bytes) at used l front back ts h e u =
      ap (λ b. Some (ts ++ literal b ∷ [])) (literal_back l front bytes back used e u)
  tree_read (compound us) at used l front back ts h e u =
      around l (walked_all us) (compound us) at used ts (listed us) (trees_len us)
      (λ xs. compound (trees xs))
      (trees_read us at used l front back ts h
      (inner_literals (walked_all us) (compound us) l front back refl e) u)
      refl (listed_length us) (ap (λ x. compound x) (trees_listed us))
  tree_read (optional format t) at used l front back ts h e u =
      around l (walked t) (optional format t) at used ts (t ∷ []) 1
      (λ xs. optional format (pack xs))
      (tree_read t at used l front back ts h
      (inner_literals (walked t) (optional format t) l front back refl e) u)
      (ap (λ o. with_optional o (ts ++ t ∷ [])) (flag_back format)) refl refl
  tree_read (first us) at used l front back ts h e u =
      around l (walked_all us) (first us) at used ts (listed us) (trees_len us)
      (λ xs. first (trees xs))
      (trees_read us at used l front back ts h
      (inner_literals (walked_all us) (first us) l front back refl e) u)
      refl (listed_length us) (ap (λ x. first x) (trees_listed us))

  trees_read : (us : Trees) (at used : ℕ) (l front back : Text) (ts : List Tree) → AreModern us
      → l ≡ front ++ literals_of (walked_all us) ++ back → used ≡ length front
      → read_on l (nodes_from at used (walked_all us)) (Some ts) ≡ Some (ts ++ listed us)
  trees_read no_trees at used l front back ts h e u = ap (λ x. Some x) (sym (append-nil ts))
  trees_read (more_trees t us) at used l front back ts h e u =
      let own : Text = literals_of (walked t) in
      let rest : Text = literals_of (walked_all us) in
      let here : l ≡ (front ++ own) ++ (rest ++ back) =
      e
      ∙ ap (λ x. front ++ x ++ back) (literals_of-append (walked t) (walked_all us))
      ∙ ap (λ x. x ++ back) (sym (append_assoc front own rest))
      ∙ append_assoc (front ++ own) rest back in
      let after : l ≡ (front ++ own) ++ rest ++ back =
      here ∙ sym (append_assoc (front ++ own) rest back) in
      let position : used + length own ≡ length (front ++ own) =
      omega (arith, u, length-append front own) in
      ap (λ ns. read_on l ns (Some ts)) (nodes_from-append (walked t) (walked_all us) at used)
      ∙ read_on-append l (nodes_from at used (walked t))
      (nodes_from (at + length (walked t)) (used + length own) (walked_all us)) (Some ts)
      ∙ ap (λ o. read_on l (nodes_from (at + length (walked t)) (used + length own) (walked_all us))
      o) (tree_read t at used l front (rest ++ back) ts h.0 here u)
      ∙ trees_read us (at + length (walked t)) (used + length own) l (front ++ own) back
      (ts ++ t ∷ []) h.1 after position
      ∙ ap (λ x. Some x) (append_assoc ts (t ∷ []) (listed us))

-- the nodes of some trees side by side
pub trees_back : (ts : List Tree) → AreModern (trees ts)
    → read_nodes (literals_of (walked_all (trees ts))) (nodes_from 0 0 (walked_all (trees ts)))
    ≡ Some ts
trees_back ts h =
    trees_read (trees ts) 0 0 (literals_of (walked_all (trees ts))) [] [] [] h
    (sym (append-nil (literals_of (walked_all (trees ts))))) refl
    ∙ ap (λ x. Some x) (same ts)
  where
    same : (us : List Tree) → listed (trees us) ≡ us
    same [] = refl
    same (u ∷ us) = ap (λ x. u ∷ x) (same us)

-- the nodes of one tree
pub tree_back : (t : Tree) → IsModern t
    → read_nodes (literals_of (walked t)) (nodes_from 0 0 (walked t)) ≡ Some (t ∷ [])
tree_back t h = tree_read t 0 0 (literals_of (walked t)) [] [] [] h
    (sym (append-nil (literals_of (walked t)))) refl
