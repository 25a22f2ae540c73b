-- Nodes that read as trees are a description if each is a part by itself, and the nodes written for trees
-- are.
use Rattle.std.proofs.Common.{◌≡◌, ◌≢◌, ◌∙◌, ◌⊎◌, inl, inr, ℕ, ◌+◌, ◌-◌, ◌≤◌, ◌==◌, nat_le, nat_lt, if◌then◌else◌, Bool, true, false, List, [], ◌∷◌, ◌++◌, Option, Some, None, length, take, drop, refl, sym, ap, subst, arith, length-append}
use Rattle.std.proofs.Math.Dec.{eqb}
use Rattle.std.proofs.lemmas.Bool.{le-ltb, leb-true}
use Rattle.std.proofs.lemmas.Bool.Decides.{eqb_tells}
use Rattle.std.specs.Prelude.{⊤}
use Rattle.timefd_lang_component.specs.declared.component.Component.{Component}
use Rattle.timefd_lang_component.specs.declared.component.Component.TheVariants.{Subsecond}
use Rattle.timefd_lang_component.specs.Modern.{AreModern}
use Rattle.timefd_lang_component.specs.Tree.{Text, Tree, component, literal, compound, optional, first, Trees, no_trees, more_trees, pack, trees}
use Rattle.timefd_lang_node_list.specs.Nodes.{Role, text, shown, together, perhaps, either, arity, before, ending, grown}
use Rattle.timefd_lang_node_list.specs.Views.{walked, walked_all}
use Rattle.timefd_c_nodes.specs.declared.node.RawNode.{RawNode}
use Rattle.timefd_c_nodes.specs.Decoding.{component_of, format_of, grown_with, read_on, with_component, with_members, with_optional}
use Rattle.timefd_c_nodes.specs.Encoding.{component_table, literals_of, node_for, nodes_from, own_text}
use Rattle.timefd_c_nodes.proofs.DecodeLemmas.{nodes_from-append, trees_back}
use Rattle.timefd_c_nodes.proofs.WriteLemmas.{literals_of-append}
use Rattle.timefd_c_nodes.specs.Formatting.Nodes.{count_after, fault_after, fault_from, node_fault}
use Rattle.timefd_c_nodes.specs.Formatting.Parts.{by_kind, perhaps_role, role_in, shown_role}
use Rattle.timefd_c_nodes.specs.declared.formatting.part.RawNodeKind.TheVariants as kind
use Rattle.timefd_c_nodes.proofs.FormattingLemmas.CutLemmas.{as_part, after_step, grown_length, whole_role}

-- All bytes of a literal are among the literals.
record IsPart (l : Text) (n : RawNode) : Type 0 where
  pub inside : n.what ≡ 1 → n.start + n.count ≤ length l

abbrev AreParts : Text → List RawNode → Type 0
AreParts l [] = ⊤
AreParts l (n ∷ ns) = IsPart l n × AreParts l ns

-- what a node is, if it takes members that are there
record Found (ts : List Tree) (o : Option Role) : Type 0 where
  pub role : Role
  pub is : o ≡ Some role
  pub fits : arity role ≤ length ts

members_there : (count : ℕ) (make : List Tree → Tree) (ts us : List Tree) → with_members count make ts ≡ Some us
    → count ≤ length ts
members_there count make ts us e = by (nat_le count (length ts)) refl e
  where
    by : (b : Bool) → nat_le count (length ts) ≡ b
        → (if b then Some (before count ts ++ make (ending count ts) ∷ []) else None) ≡ Some us → count ≤ length ts
    by true is e = leb-true count (length ts) is
    by false is e = absurd cc

found_by : (ts us : List Tree) (a b c d e far : Bool) (bytes : Text) (co : Option Component) (k : ℕ)
    (fl : Option Bool) → (a ≡ true → far ≡ false)
    → (if a then Some (ts ++ literal bytes ∷ []) else if b then with_component co ts
    else if c then with_members k (λ vs. compound (trees vs)) ts else if d then with_optional fl ts
    else if e then with_members k (λ vs. first (trees vs)) ts else None) ≡ Some us
    → Found ts (by_kind (if a then Some kind.Literal else if b then Some kind.Component
    else if c then Some kind.Compound else if d then Some kind.Optional
    else if e then Some kind.First else None)
    (if far then None else Some (text bytes)) (shown_role co) k (perhaps_role fl))
found_by ts us true b c d e true bytes co k fl f h = let no : true ≡ false = f refl in absurd cc
found_by ts us true b c d e false bytes co k fl f h =
    record { role = text bytes; is = refl; fits = omega arith }
found_by ts us false true c d e far bytes None k fl f h = absurd cc
found_by ts us false true c d e far bytes (Some x) k fl f h =
    record { role = shown x; is = refl; fits = omega arith }
found_by ts us false false true d e far bytes co k fl f h = record {
  role = together k;
  is = refl;
  fits = members_there k (λ vs. compound (trees vs)) ts us h;
}
found_by ts us false false false true e far bytes co k None f h = absurd cc
found_by ts us false false false true e far bytes co k (Some format) f h = record {
  role = perhaps format;
  is = refl;
  fits = members_there 1 (λ vs. optional format (pack vs)) ts us h;
}
found_by ts us false false false false true far bytes co k fl f h = record {
  role = either k;
  is = refl;
  fits = members_there k (λ vs. first (trees vs)) ts us h;
}
found_by ts us false false false false false far bytes co k fl f h = absurd cc

pub equal : (a b : ℕ) → (a == b) ≡ true → a ≡ b
equal a b e = by (eqb_tells a b) e
  where
    by : ((eqb a b ≡ true) × (a ≡ b)) ⊎ ((eqb a b ≡ false) × (a ≢ b)) → (a == b) ≡ true → a ≡ b
    by (inl x) e = x.1
    by (inr x) e = let no : false ≡ true = sym x.0 ∙ e in absurd cc

found : (l : Text) (n : RawNode) (ts us : List Tree) → IsPart l n → grown_with l n (Some ts) ≡ Some us
    → Found ts (role_in l n)
found l n ts us p h =
    found_by ts us (n.what == 1) (n.what == 2) (n.what == 3) (n.what == 4) (n.what == 5)
    (nat_lt (length l) (n.start + n.count))
    (take n.count (drop n.start l)) (component_of n) n.count (format_of n)
    (λ e. le-ltb (length l) (n.start + n.count) (p.inside (equal n.what 1 e))) h

same_trees : (ts us : List Tree) → Some ts ≡ Some us → ts ≡ us
same_trees ts us e = cc

no_more : (l : Text) (ns : List RawNode) (us : List Tree) → read_on l ns None ≡ Some us → ⊥
no_more l [] us e = absurd cc
no_more l (n ∷ ns) us e = no_more l ns us e

sound_from : (l : Text) (at : ℕ) (ns : List RawNode) (ts us : List Tree) → AreParts l ns
    → read_on l ns (Some ts) ≡ Some us → fault_from l at ns (length ts) ≡ None
sound_from l at [] ts us p e = refl
sound_from l at (n ∷ ns) ts us p e =
    by (grown_with l n (Some ts)) refl e (λ vs h. sound_from l (at + 1) ns vs us p.1 h)
  where
    by : (o : Option (List Tree)) → grown_with l n (Some ts) ≡ o → read_on l ns o ≡ Some us
        → ((vs : List Tree) → read_on l ns (Some vs) ≡ Some us → fault_from l (at + 1) ns (length vs) ≡ None)
        → fault_from l at (n ∷ ns) (length ts) ≡ None
    by None is e go = absurd (no_more l ns us e)
    by (Some vs) is e go =
        let f : Found ts (role_in l n) = found l n ts vs p.0 is in
        let grows : vs ≡ grown ts (as_part f.role) =
        same_trees vs (grown ts (as_part f.role)) (sym is ∙ whole_role l n ts f.role f.is f.fits) in
        let size : length vs ≡ length ts - arity f.role + 1 =
        ap length grows ∙ grown_length ts f.role f.fits in
        ap (λ r. fault_after at (count_after (length ts) r) (fault_from l (at + 1) ns)) f.is
        ∙ after_step at (length ts) f.role (fault_from l (at + 1) ns) f.fits
        ∙ ap (fault_from l (at + 1) ns) (sym size) ∙ go vs e

-- The nodes of trees.

what_is : (c : Component) → (component_table c).what ≡ 2
what_is (Subsecond s) = refl
what_is c = refl

node_part : (t : Tree) (at used : ℕ) (l : Text) → used + length (own_text t) ≤ length l
    → IsPart l (node_for at used t)
node_part (component c) at used l room = record { inside = λ e. absurd (omega (arith, e, what_is c)) }
node_part (literal bytes) at used l room = record { inside = λ e. room }
node_part (compound ts) at used l room = record { inside = λ e. absurd (omega (arith, e)) }
node_part (optional format t) at used l room = record { inside = λ e. absurd (omega (arith, e)) }
node_part (first ts) at used l room = record { inside = λ e. absurd (omega (arith, e)) }

parts_append : (l : Text) (ns ms : List RawNode) → AreParts l ns → AreParts l ms → AreParts l (ns ++ ms)
parts_append l [] ms p q = q
parts_append l (n ∷ ns) ms p q = (p.0, parts_append l ns ms p.1 q)

-- the nodes of the members, and then the one around them
around : (l : Text) (xs : List Tree) (t : Tree) (at used : ℕ) → AreParts l (nodes_from at used xs)
    → used + length (literals_of (xs ++ t ∷ [])) ≤ length l → AreParts l (nodes_from at used (xs ++ t ∷ []))
around l xs t at used p room =
    let here : used + length (literals_of xs) + length (own_text t) ≤ length l =
    omega (
      arith,
      room,
      ap length (literals_of-append xs (t ∷ [])),
      length-append (literals_of xs) (own_text t ++ []),
      length-append (own_text t) [],
    ) in
    subst (AreParts l) (sym (nodes_from-append xs (t ∷ []) at used))
    (parts_append l (nodes_from at used xs)
    (nodes_from (at + length xs) (used + length (literals_of xs)) (t ∷ [])) p
    (node_part t (at + length xs) (used + length (literals_of xs)) l here, tt))

inner_room : (xs : List Tree) (t : Tree) (used n : ℕ) → used + length (literals_of (xs ++ t ∷ [])) ≤ n
    → used + length (literals_of xs) ≤ n
inner_room xs t used n h =
    omega (
      arith,
      h,
      ap length (literals_of-append xs (t ∷ [])),
      length-append (literals_of xs) (own_text t ++ []),
    )

mutual
  tree_parts : (t : Tree) (at used : ℕ) (l : Text)
      → used + length (literals_of (walked t)) ≤ length l → AreParts l (nodes_from at used (walked t))
  tree_parts (component c) at used l room = (node_part (component c) at used l (omega (arith, room)), tt)
  tree_parts (literal bytes) at used l room =
      (node_part (literal bytes) at used l (omega (arith, room, length-append bytes [])), tt)
  tree_parts (compound us) at used l room =
      around l (walked_all us) (compound us) at used
      (trees_parts us at used l (inner_room (walked_all us) (compound us) used (length l) room)) room
  tree_parts (optional format t) at used l room =
      around l (walked t) (optional format t) at used
      (tree_parts t at used l (inner_room (walked t) (optional format t) used (length l) room)) room
  tree_parts (first us) at used l room =
      around l (walked_all us) (first us) at used
      (trees_parts us at used l (inner_room (walked_all us) (first us) used (length l) room)) room

  trees_parts : (us : Trees) (at used : ℕ) (l : Text)
      → used + length (literals_of (walked_all us)) ≤ length l → AreParts l (nodes_from at used (walked_all us))
  trees_parts no_trees at used l room = tt
  trees_parts (more_trees t us) at used l room =
      let own : List ℕ = literals_of (walked t) in
      let rest : List ℕ = literals_of (walked_all us) in
      let all : length (literals_of (walked t ++ walked_all us)) ≡ length own + length rest =
      ap length (literals_of-append (walked t) (walked_all us)) ∙ length-append own rest in
      subst (AreParts l) (sym (nodes_from-append (walked t) (walked_all us) at used))
      (parts_append l (nodes_from at used (walked t))
      (nodes_from (at + length (walked t)) (used + length own) (walked_all us))
      (tree_parts t at used l (omega (arith, room, all)))
      (trees_parts us (at + length (walked t)) (used + length own) l (omega (arith, room, all))))

pub written_sound : (ts : List Tree) → AreModern (trees ts)
    → node_fault (literals_of (walked_all (trees ts))) (nodes_from 0 0 (walked_all (trees ts))) ≡ None
written_sound ts modern =
    let l : Text = literals_of (walked_all (trees ts)) in
    sound_from l 0 (nodes_from 0 0 (walked_all (trees ts))) [] ts
    (trees_parts (trees ts) 0 0 l (omega arith)) (trees_back ts modern)
