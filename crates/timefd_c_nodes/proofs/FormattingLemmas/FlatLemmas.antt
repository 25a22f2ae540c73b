-- Nodes that are leaves, or members in turn, from the first to the last.
use Rattle.std.proofs.Common.{◌≡◌, ◌∙◌, ℕ, ◌+◌, ◌-◌, ◌≤◌, ◌<◌, ◌&&◌, ◌⊎◌, inl, inr, Bool, true, false, List, [], ◌∷◌, ◌++◌, Option, Some, None, IfSome, length, take, drop, get_or, map, refl, sym, ap, subst, arith, add-one, drop-cons, length-append}
use Rattle.std.proofs.lemmas.List.{drop_all, map-append, take-append-drop}
use Rattle.std.proofs.lemmas.Str.{is_utf8-from_IsUtf8}
use Rattle.std.specs.List.{list_all}
use Rattle.std.specs.Str.{IsUtf8, is_utf8}
use Rattle.timefd_lang_component.specs.declared.component.Component.{Component}
use Rattle.timefd_lang_component.specs.Modern.{modern}
use Rattle.timefd_lang_component.specs.Tree.{Text, Tree, component, compound, literal, trees}
use Rattle.timefd_lang_node_list.specs.declared.leaves.Leaf.{Leaf}
use Rattle.timefd_lang_node_list.specs.LeafMeaning.{leaf_tree}
use Rattle.timefd_lang_node_list.specs.Nodes.{Role, arity, before, ending, grown, made, text, shown, together}
use Rattle.timefd_lang_node_list.proofs.NodeLemmas.{before_zero}
use Rattle.timefd_c_nodes.specs.declared.node.RawNode.{RawNode}
use Rattle.timefd_c_nodes.specs.Decoding.{grown_with, read_nodes, read_on}
use Rattle.timefd_c_nodes.specs.Formatting.Flat.{IsAdded, IsLeaf, IsMadeOf, ReadAs, Takes}
use Rattle.timefd_c_nodes.specs.Formatting.Literals.{is_text, is_textual}
use Rattle.timefd_c_nodes.specs.Formatting.Nodes.{fault_after, count_after, fault_from, node_fault, node_trees, trees_of}
use Rattle.timefd_c_nodes.specs.Formatting.Parts.{role_in}
use Rattle.timefd_c_nodes.proofs.FormattingLemmas.GatheredLemmas.{appended, gathered}
use Rattle.timefd_date_moment.specs.Fields.Reads.{Point, fields_of, followed, read_all, start, whole}
use Rattle.timefd_c_nodes.proofs.FormattingLemmas.CutLemmas.{as_part, after_step, grown_length, whole_role}

-- The nodes in front of an index are these trees, and the remaining nodes decide the rest.
pub record AreInFront (l : Text) (ns : List RawNode) (at : ℕ) (ts : List Tree) : Type 0 where
  pub fault : fault_from l at (drop at ns) (length ts) ≡ node_fault l ns
  pub read : read_on l (drop at ns) (Some ts) ≡ read_nodes l ns
  pub texts : list_all (λ n. is_text (role_in l n)) (drop at ns)
      ≡ list_all (λ n. is_text (role_in l n)) ns

texts_on : (l : Text) (n : RawNode) (ns : List RawNode) → is_text (role_in l n) ≡ true
    → list_all (λ n. is_text (role_in l n)) (n ∷ ns) ≡ list_all (λ n. is_text (role_in l n)) ns
texts_on l n ns e = ap (λ b. b && list_all (λ n. is_text (role_in l n)) ns) e

-- One more of them.
role_in_front : (l : Text) (ns : List RawNode) (at : ℕ) (d : RawNode) (ts : List Tree) (r : Role) → at < length ns
    → role_in l (get_or ns at d) ≡ Some r → arity r ≤ length ts → is_textual r ≡ true → AreInFront l ns at ts
    → AreInFront l ns (at + 1) (grown ts (as_part r))
role_in_front l ns at d ts r below is fits textual front =
    let n : RawNode = get_or ns at d in
    let rest : List RawNode = drop (at + 1) ns in
    let cut : drop at ns ≡ n ∷ rest = rw add-one (drop-cons ns at d below) in
    let len : length (grown ts (as_part r)) ≡ length ts - arity r + 1 = grown_length ts r fits in
    record {
      fault = ap (fault_from l (at + 1) rest) len
          ∙ sym (after_step at (length ts) r (fault_from l (at + 1) rest) fits)
          ∙ sym (ap (λ o. fault_after at (count_after (length ts) o) (fault_from l (at + 1) rest)) is)
          ∙ sym (ap (λ xs. fault_from l at xs (length ts)) cut)
          ∙ front.fault;
      read = sym (ap (read_on l rest) (whole_role l n ts r is fits))
          ∙ sym (ap (λ xs. read_on l xs (Some ts)) cut) ∙ front.read;
      texts = sym (texts_on l n rest (ap is_text is ∙ textual))
          ∙ sym (ap (list_all (λ n. is_text (role_in l n))) cut) ∙ front.texts;
    }

grown_leaf : (ts : List Tree) (r : Role) (leaf : Leaf) → arity r ≡ 0 → made r [] ≡ leaf_tree leaf
    → grown ts (as_part r) ≡ ts ++ leaf_tree leaf ∷ []
grown_leaf ts r leaf alone tree =
    ap (λ k. before k ts ++ made r (ending k ts) ∷ []) alone
    ∙ ap (λ vs. vs ++ made r (ending 0 ts) ∷ []) (before_zero ts)
    ∙ ap (λ vs. ts ++ made r vs ∷ []) (drop_all (length ts - 0) ts (omega arith))
    ∙ ap (λ t. ts ++ t ∷ []) tree

-- The nodes in front of an index are these trees, which read the same as the leaves so far.
pub record AreLeaves (l : Text) (ns : List RawNode) (at parts : ℕ) (leaves : List Leaf) : Type 0 where
  pub ts : List Tree
  pub counted : length ts ≡ parts
  pub few : parts ≤ at
  pub front : AreInFront l ns at ts
  pub same : (p : Point) → read_all (trees ts) p ≡ read_all (trees (map leaf_tree leaves)) p

pub none_in_front : (l : Text) (ns : List RawNode) → AreLeaves l ns 0 0 []
none_in_front l ns = record {
  ts = [];
  counted = refl;
  few = omega arith;
  front = record { fault = refl; read = refl; texts = refl };
  same = λ p. refl;
}

-- The same read after what reads the same.
added_read : (ts us : List Tree) (t : Tree) (p : Point)
    → ((q : Point) → read_all (trees ts) q ≡ read_all (trees us) q)
    → read_all (trees (ts ++ t ∷ [])) p ≡ read_all (trees (us ++ t ∷ [])) p
added_read ts us t p same =
    appended ts (t ∷ []) p ∙ ap (λ o. followed o (λ q. read_all (trees (t ∷ [])) q)) (same p)
    ∙ sym (appended us (t ∷ []) p)

one_added : (l : Text) (ns : List RawNode) (at parts after : ℕ) (d : RawNode) (leaves more : List Leaf) → at < length ns
    → AreLeaves l ns at parts leaves → IsAdded l (get_or ns at d) parts leaves after more
    → AreLeaves l ns (at + 1) after more
one_added l ns at parts after d leaves more below so one =
    let leaf : Leaf = one.leaf in
    let r : Role = one.is.role in
    let fits : arity r ≤ length so.ts = omega (arith, one.is.alone) in
    let grows : grown so.ts (as_part r) ≡ so.ts ++ leaf_tree leaf ∷ [] =
    grown_leaf so.ts r leaf one.is.alone one.is.tree in
    subst (λ xs. AreLeaves l ns (at + 1) after xs) (sym one.added) (record {
      ts = so.ts ++ leaf_tree leaf ∷ [];
      counted = length-append so.ts (leaf_tree leaf ∷ []) ∙ ap (λ k. k + 1) so.counted ∙ sym one.one;
      few = omega (arith, one.one, so.few);
      front = subst (λ vs. AreInFront l ns (at + 1) vs) grows
          (role_in_front l ns at d so.ts r below one.is.is fits one.is.textual so.front);
      same = λ p. added_read so.ts (map leaf_tree leaves) (leaf_tree leaf) p so.same
          ∙ ap (λ us. read_all (trees us) p) (sym (map-append leaf_tree leaves (leaf ∷ [])));
    })

one_made : (l : Text) (ns : List RawNode) (at parts after : ℕ) (d : RawNode) (leaves more : List Leaf) → at < length ns
    → AreLeaves l ns at parts leaves → IsMadeOf l (get_or ns at d) parts leaves after more
    → AreLeaves l ns (at + 1) after more
one_made l ns at parts after d leaves more below so one =
    let fits : one.count ≤ length so.ts = subst (λ k. one.count ≤ k) (sym so.counted) one.few in
    subst (λ xs. AreLeaves l ns (at + 1) after xs) (sym one.same) (record {
      ts = grown so.ts (as_part (together one.count));
      counted = grown_length so.ts (together one.count) fits ∙ ap (λ k. k - one.count + 1) so.counted ∙ sym one.one;
      few = omega (arith, one.one, so.few);
      front = role_in_front l ns at d so.ts (together one.count) below one.is fits refl so.front;
      same = λ p. gathered (before one.count so.ts) (ending one.count so.ts) p
          ∙ ap (λ us. read_all (trees us) p) (take-append-drop (length so.ts - one.count) so.ts) ∙ so.same p;
    })

pub one_more : (l : Text) (ns : List RawNode) (at parts after : ℕ) (d : RawNode) (leaves more : List Leaf) → at < length ns
    → AreLeaves l ns at parts leaves → Takes l (get_or ns at d) parts leaves after more
    → AreLeaves l ns (at + 1) after more
one_more l ns at parts after d leaves more below so (inl one) = one_added l ns at parts after d leaves more below so one
one_more l ns at parts after d leaves more below so (inr one) = one_made l ns at parts after d leaves more below so one

-- All of them.
module _ (l : Text) (ns : List RawNode) (at parts : ℕ) (leaves : List Leaf) (end : length ns ≤ at)
    (so : AreLeaves l ns at parts leaves) where
  pub sound_all : node_fault l ns ≡ None
  sound_all = sym so.front.fault ∙ ap (λ xs. fault_from l at xs (length so.ts)) (drop_all at ns end)

  pub texts_all : list_all (λ n. is_text (role_in l n)) ns ≡ true
  texts_all = sym so.front.texts ∙ ap (list_all (λ n. is_text (role_in l n))) (drop_all at ns end)

  trees_all : node_trees l ns ≡ so.ts
  trees_all = ap trees_of (sym so.front.read ∙ ap (λ xs. read_on l xs (Some so.ts)) (drop_all at ns end))

  pub reads_all : ReadAs (node_trees l ns) leaves
  reads_all date =
      ap (λ us. fields_of (compound (trees us)) date) trees_all ∙ ap (whole (length date)) (so.same (start date))

pub text_leaf : (l : Text) (n : RawNode) (bytes : Text) (leaf : Leaf) → Some (text bytes) ≡ role_in l n
    → IsUtf8 bytes → literal bytes ≡ leaf_tree leaf → IsLeaf l n leaf
text_leaf l n bytes leaf is utf8 tree = record {
  role = text bytes;
  is = sym is;
  alone = refl;
  textual = is_utf8-from_IsUtf8 bytes utf8;
  tree = tree;
}

pub component_leaf : (l : Text) (n : RawNode) (c : Component) (leaf : Leaf) → Some (shown c) ≡ role_in l n
    → component (modern c) ≡ leaf_tree leaf → IsLeaf l n leaf
component_leaf l n c leaf is tree =
    record { role = shown c; is = sym is; alone = refl; textual = refl; tree = tree }

pub takes_leaf : (l : Text) (n : RawNode) (parts after : ℕ) (leaves more : List Leaf) (leaf : Leaf) → IsLeaf l n leaf
    → after ≡ parts + 1 → more ≡ leaves ++ leaf ∷ [] → Takes l n parts leaves after more
takes_leaf l n parts after leaves more leaf is one added = inl (record { leaf = leaf; is = is; one = one; added = added })

pub takes_text : (l : Text) (n : RawNode) (parts : ℕ) (leaves more : List Leaf) (leaf : Leaf) (r : Option ℕ)
    → IsLeaf l n leaf → IfSome r (λ after. after ≡ parts + 1) → IfSome r (λ after. more ≡ leaves ++ leaf ∷ [])
    → IfSome r (λ after. Takes l n parts leaves after more)
takes_text l n parts leaves more leaf None is one added = tt
takes_text l n parts leaves more leaf (Some after) is one added =
    takes_leaf l n parts after leaves more leaf is one added

pub takes_members : (l : Text) (n : RawNode) (parts count : ℕ) (leaves : List Leaf) → Some (together count) ≡ role_in l n
    → count ≤ parts → Takes l n parts leaves (parts - count + 1) leaves
takes_members l n parts count leaves is few =
    inr (record { count = count; is = sym is; few = few; one = refl; same = refl })
