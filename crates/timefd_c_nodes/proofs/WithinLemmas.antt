-- What is written as far as there is room, one part after another.
use Rattle.std.proofs.Common.{◌≡◌, ◌∙◌, ℕ, ◌+◌, inl, inr, true, Option, Some, None, IfSome, List, [], ◌∷◌, ◌++◌, length, set, take, drop, refl, sym, ap, subst, arith, length-append, append-nil, append_assoc}
use Rattle.std.proofs.lemmas.List.{take-append-drop}
use Rattle.timefd_lang_component.specs.declared.component.Component.{Component}
use Rattle.timefd_lang_component.specs.Reserved.{reserve, reserve_all}
use Rattle.timefd_lang_component.specs.Tree.{Text, Tree, component, compound, optional, first, trees}
use Rattle.timefd_lang_node_list.specs.Nodes.{kept_bytes}
use Rattle.timefd_lang_node_list.specs.Views.{walked, walked_all}
use Rattle.timefd_c_nodes.specs.declared.node.RawNode.{RawNode}
use Rattle.timefd_c_nodes.specs.declared.position.WritePosition.{WritePosition}
use Rattle.timefd_c_nodes.specs.declared.position.Written.{Written}
use Rattle.timefd_c_nodes.specs.Encoding.{component_node, component_table, compound_node, first_node, optional_node, node_for, own_text, texts_of, literals_of}
use Rattle.timefd_c_nodes.specs.Writing.{overwritten, nodes_written, literals_written, IsPast, IsWritten, Puts, WritesParts, WritesWithin}
use Rattle.timefd_c_nodes.proofs.TreeLemmas.{compound_after, first_after, optional_after, reserved_kept, table_bytes}
use Rattle.timefd_c_nodes.proofs.WriteLemmas.{literals-length, literals_written-append, nodes_written-append, texts-length}

pub parts_none : {A : Type 0} → (node : ℕ → ℕ → A → RawNode) (own : A → Text) (from : WritePosition)
    (ns : List RawNode) (a : Text) → WritesParts node own [] from from ns ns a a
parts_none node own from ns a = record {
  node_at = omega arith;
  literal_at = omega arith;
  node_room = refl;
  literal_room = refl;
  nodes = λ h. refl;
  literals = λ h. refl;
}

-- some parts, and then more
pub parts_both : {A : Type 0} → (node : ℕ → ℕ → A → RawNode) (own : A → Text) (xs ys : List A)
    (from mid to : WritePosition) (ns ms ks : List RawNode) (a b c : Text)
    → WritesParts node own xs from mid ns ms a b → WritesParts node own ys mid to ms ks b c
    → WritesParts node own (xs ++ ys) from to ns ks a c
parts_both node own xs ys from mid to ns ms ks a b c v w = record {
  node_at = omega (arith, v.node_at, w.node_at, length-append xs ys);
  literal_at = omega (arith, v.literal_at, w.literal_at, texts-length own xs ys);
  node_room = w.node_room ∙ v.node_room;
  literal_room = w.literal_room ∙ v.literal_room;
  nodes = λ h.
      w.nodes (omega (arith, h, v.node_at, v.node_room, length-append xs ys))
      ∙ ap (λ k. nodes_written node own k mid.literals ys ms) v.node_at
      ∙ ap (λ k. nodes_written node own (from.nodes + length xs) k ys ms) v.literal_at
      ∙ ap (λ l. nodes_written node own (from.nodes + length xs)
      (from.literals + length (texts_of own xs)) ys l)
      (v.nodes (omega (arith, h, length-append xs ys)))
      ∙ sym (nodes_written-append node own xs ys from.nodes from.literals ns);
  literals = λ h.
      w.literals (omega (arith, h, v.literal_at, v.literal_room, texts-length own xs ys))
      ∙ ap (λ k. literals_written own k ys b) v.literal_at
      ∙ ap (λ l. literals_written own (from.literals + length (texts_of own xs)) ys l)
      (v.literals (omega (arith, h, texts-length own xs ys)))
      ∙ sym (literals_written-append own xs ys from.literals a);
}

pub within_none : (from : WritePosition) (ns : List RawNode) (a : Text) → WritesWithin [] from from ns ns a a
within_none from ns a = parts_none node_for own_text from ns a

-- some trees, and then more
pub within_both : (xs ys : List Tree) (from mid to : WritePosition) (ns ms ks : List RawNode) (a b c : Text)
    → WritesWithin xs from mid ns ms a b → WritesWithin ys mid to ms ks b c
    → WritesWithin (xs ++ ys) from to ns ks a c
within_both xs ys from mid to ns ms ks a b c v w =
    parts_both node_for own_text xs ys from mid to ns ms ks a b c v w

overwritten-none : (at : ℕ) (bytes : Text) → overwritten at [] bytes ≡ bytes
overwritten-none at bytes =
    let position : at + 0 ≡ at = omega arith in
    ap (λ l. l ++ drop (at + 0) bytes) (append-nil (take at bytes))
    ∙ ap (λ k. take at bytes ++ drop k bytes) position
    ∙ take-append-drop at bytes

-- a part that adds nothing to the literals
pub part_node : {A : Type 0} → (node : ℕ → ℕ → A → RawNode) (own : A → Text) (x : A) (at : WritePosition)
    (n : RawNode) (reserved : ℕ) (w : Written) (ns ms : List RawNode) (a : Text)
    → own x ≡ [] → n ≡ node at.nodes at.literals x → Puts n reserved at ns ms w
    → WritesParts node own (x ∷ []) at w.end ns ms a a
part_node node own x at n reserved w ns ms a none is puts =
    let none_added : length (texts_of own (x ∷ [])) ≡ 0 = ap (λ l. length (l ++ [])) none in
    record {
      node_at = omega (arith, puts.node_at);
      literal_at = omega (arith, puts.literal_at, none_added);
      node_room = puts.node_room;
      literal_room = refl;
      nodes = λ h. puts.nodes (omega (arith, h)) ∙ ap (λ m. set ns at.nodes m) is;
      literals = λ h.
          sym (ap (λ l. overwritten at.literals l a) none ∙ overwritten-none at.literals a);
    }

-- a tree that adds nothing to the literals
pub within_node : (t : Tree) (at : WritePosition) (n : RawNode) (reserved : ℕ) (w : Written)
    (ns ms : List RawNode) (a : Text)
    → own_text t ≡ [] → n ≡ node_for at.nodes at.literals t → Puts n reserved at ns ms w
    → WritesWithin (t ∷ []) at w.end ns ms a a
within_node t at n reserved w ns ms a own is puts =
    part_node node_for own_text t at n reserved w ns ms a own is puts

pub put_node : (t : Tree) (at : WritePosition) (n : RawNode) (reserved : ℕ) (r : Option Written)
    (ns ms : List RawNode) (a : Text)
    → own_text t ≡ [] → n ≡ node_for at.nodes at.literals t → IfSome r (Puts n reserved at ns ms)
    → IfSome r (λ w. WritesWithin (t ∷ []) at w.end ns ms a a)
put_node t at n reserved None ns ms a own is puts = puts
put_node t at n reserved (Some w) ns ms a own is puts =
    within_node t at n reserved w ns ms a own is puts

pub written_component : (c : Component) (at : WritePosition) (n : RawNode) (r : Option Written)
    (ns ms : List RawNode) (a : Text) → n ≡ component_node c at.nodes
    → IfSome r (Puts n (component_table c).bytes at ns ms)
    → IfSome r (IsWritten (walked (component c)) (reserve (component c)) at ns ms a a)
written_component c at n None ns ms a is puts = puts
written_component c at n (Some w) ns ms a is puts = record {
  within = within_node (component c) at n (component_table c).bytes w ns ms a refl is puts;
  bytes = puts.bytes ∙ table_bytes c ∙ reserved_kept c;
}

-- Trees, one after another.

-- some of the trees are written, and the others remain
pub record Part (all left : List Tree) (from at : WritePosition) (ns ms : List RawNode) (a b : Text) : Type 0
  where
    pub done : List Tree
    pub split : all ≡ done ++ left
    pub within : WritesWithin done from at ns ms a b

pub part_init : (all left : List Tree) (from : WritePosition) (ns : List RawNode) (a : Text) → all ≡ left
    → Part all left from from ns ns a a
part_init all left from ns a e = record { done = []; split = e; within = within_none from ns a }

pub part_step : (all xs ys left : List Tree) (from at next : WritePosition) (ns ms ks : List RawNode)
    (a b c : Text) → left ≡ xs ++ ys → Part all left from at ns ms a b
    → WritesWithin xs at next ms ks b c → Part all ys from next ns ks a c
part_step all xs ys left from at next ns ms ks a b c e part w = record {
  done = part.done ++ xs;
  split = part.split ∙ ap (λ l. part.done ++ l) e ∙ sym (append_assoc part.done xs ys);
  within = within_both part.done xs from at next ns ms ks a b c part.within w;
}

pub part_end : (all left : List Tree) (from at : WritePosition) (ns ms : List RawNode) (a b : Text)
    → left ≡ [] → Part all left from at ns ms a b → WritesWithin all from at ns ms a b
part_end all left from at ns ms a b e part =
    subst (λ l. WritesWithin l from at ns ms a b)
    (sym (part.split ∙ ap (λ l. part.done ++ l) e ∙ append-nil part.done)) part.within

-- what a `usize` can't count in part, it can't count as a whole
pub part_past : (all xs ys left : List Tree) (from at : WritePosition) (ns ms : List RawNode) (a b : Text)
    → left ≡ xs ++ ys → Part all left from at ns ms a b → IsPast xs at → IsPast all from
part_past all xs ys left from at ns ms a b e part past = counted past
  where
    whole : all ≡ part.done ++ (xs ++ ys)
    whole = part.split ∙ ap (λ l. part.done ++ l) e

    counted : IsPast xs at → IsPast all from
    counted (inl h) = inl (omega (
      arith,
      h,
      part.within.node_at,
      ap length whole,
      length-append part.done (xs ++ ys),
      length-append xs ys,
    ))
    counted (inr h) = inr (omega (
      arith,
      h,
      part.within.literal_at,
      ap (λ l. length (literals_of l)) whole,
      literals-length part.done (xs ++ ys),
      literals-length xs ys,
    ))

-- A tree after its members.

pub past_inside : (xs : List Tree) (t : Tree) (from : WritePosition) → IsPast xs from
    → IsPast (xs ++ t ∷ []) from
past_inside xs t from (inl h) = inl (omega (arith, h, length-append xs (t ∷ [])))
past_inside xs t from (inr h) = inr (omega (arith, h, literals-length xs (t ∷ [])))

pub written_compound : (ts : List Tree) (from : WritePosition) (inner : Written) (r : Option Written)
    (n : RawNode) (len : ℕ) (ns ms ks : List RawNode) (a b : Text)
    → IsWritten (walked_all (trees ts)) (reserve_all (trees ts)) from ns ms a b inner
    → len ≡ length ts → n ≡ compound_node from.nodes len inner.bytes
    → IfSome r (Puts n inner.bytes inner.end ms ks)
    → IfSome r (IsWritten (walked (compound (trees ts))) (reserve (compound (trees ts))) from ns ks a
    b)
written_compound ts from inner None n len ns ms ks a b members long is puts = puts
written_compound ts from inner (Some w) n len ns ms ks a b members long is puts = record {
  within = within_both (walked_all (trees ts)) (compound (trees ts) ∷ []) from inner.end w.end ns ms
      ks a b b members.within (within_node (compound (trees ts)) inner.end n inner.bytes w ms ks b refl
      (compound_after ts from.nodes inner.end.nodes inner.end.literals inner.bytes len n
      members.within.node_at long members.bytes is) puts);
  bytes = puts.bytes ∙ members.bytes;
}

pub written_optional : (t : Tree) (from : WritePosition) (inner : Written) (r : Option Written) (n : RawNode)
    (ns ms ks : List RawNode) (a b : Text)
    → IsWritten (walked t) (reserve t) from ns ms a b inner
    → n ≡ optional_node from.nodes true inner.bytes → IfSome r (Puts n inner.bytes inner.end ms ks)
    → IfSome r (IsWritten (walked (optional true t)) (reserve (optional true t)) from ns ks a b)
written_optional t from inner None n ns ms ks a b member is puts = puts
written_optional t from inner (Some w) n ns ms ks a b member is puts = record {
  within = within_both (walked t) (optional true t ∷ []) from inner.end w.end ns ms ks a b b
      member.within (within_node (optional true t) inner.end n inner.bytes w ms ks b refl
      (optional_after t true from.nodes inner.end.nodes inner.end.literals inner.bytes n
      member.within.node_at member.bytes is) puts);
  bytes = puts.bytes ∙ member.bytes;
}

pub written_first : (ts : List Tree) (from : WritePosition) (inner : Written) (r : Option Written) (n : RawNode)
    (len bytes : ℕ) (ns ms ks : List RawNode) (a b : Text)
    → IsWritten (walked_all (trees ts)) (reserve_all (trees ts)) from ns ms a b inner
    → len ≡ length ts → bytes ≡ kept_bytes (reserve (first (trees ts)))
    → n ≡ first_node from.nodes len bytes → IfSome r (Puts n bytes inner.end ms ks)
    → IfSome r (IsWritten (walked (first (trees ts))) (reserve (first (trees ts))) from ns ks a b)
written_first ts from inner None n len bytes ns ms ks a b members long reserves is puts = puts
written_first ts from inner (Some w) n len bytes ns ms ks a b members long reserves is puts = record {
  within = within_both (walked_all (trees ts)) (first (trees ts) ∷ []) from inner.end w.end ns ms ks
      a b b members.within (within_node (first (trees ts)) inner.end n bytes w ms ks b refl
      (first_after ts from.nodes inner.end.nodes inner.end.literals bytes len n
      members.within.node_at long reserves is) puts);
  bytes = puts.bytes ∙ reserves;
}
