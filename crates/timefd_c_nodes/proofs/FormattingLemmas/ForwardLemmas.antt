-- Nodes from the first to the last.
use Rattle.std.proofs.Common.{ℕ, ◌≡◌, ◌∙◌, ◌+◌, ◌-◌, ◌<◌, ◌≤◌, if◌then◌else◌, Bool, true, false, List, [], ◌∷◌, ◌++◌, Option, Some, None, length, take, drop, get_or, Result, Ok, Err, refl, sym, ap, subst, arith, append-nil, add-one, drop-cons, length-append, length-take}
use Rattle.std.proofs.lemmas.List.{drop_all, take-append-drop}
use Rattle.timefd_lang_component.specs.declared.component.Component.{Component}
use Rattle.timefd_lang_component.specs.Modern.{modern}
use Rattle.timefd_lang_component.specs.Tree.{Text, Tree, component, literal, compound, trees}
use Rattle.timefd_date_moment.specs.declared.moment.Moment.{Moment}
use Rattle.timefd_date_format.specs.declared.field.Unshown.{Unshown}
use Rattle.timefd_date_format.specs.Written.{followed, written_all}
use Rattle.timefd_date_format.specs.Written as written
use Rattle.timefd_date_format.proofs.LeafLemmas.{written_append}
use Rattle.timefd_date_format.specs.Appends.{IsKept, IsAppended, TriesToAppend}
use Rattle.timefd_date_format.proofs.AppendLemmas.{both_appended, nothing_appended}
use Rattle.timefd_lang_node_list.specs.Nodes.{Role, text, shown, together, perhaps, either, arity, before, ending, grown}
use Rattle.timefd_lang_node_list.proofs.NodeLemmas.{before_zero}
use Rattle.timefd_c_nodes.specs.declared.node.RawNode.{RawNode}
use Rattle.timefd_c_nodes.specs.Decoding.{read_nodes, read_on}
use Rattle.timefd_c_nodes.specs.Formatting.Forward.{IsAfter, IsForward, role_text}
use Rattle.timefd_c_nodes.specs.Formatting.Nodes.{count_after, fault_after, fault_from, node_fault, node_trees, trees_of}
use Rattle.timefd_c_nodes.specs.Formatting.Parts.{by_kind, perhaps_role, shown_role}
use Rattle.timefd_c_nodes.specs.declared.formatting.forward.Reached.{Reached}
use Rattle.timefd_c_nodes.specs.declared.formatting.part.RawNodeKind.{RawNodeKind}
use Rattle.timefd_c_nodes.specs.declared.formatting.part.RawNodeKind.TheVariants as kind
use Rattle.timefd_c_nodes.proofs.FormattingLemmas.CutLemmas.{as_part, after_step, grown_length, whole_role}
use Rattle.timefd_c_nodes.proofs.FormattingLemmas.WriteLemmas.{component_by_itself}

followed_none : (x : Result Text Unshown) → followed x (Ok []) ≡ x
followed_none (Ok a) = ap Ok (append-nil a)
followed_none (Err u) = refl

-- what is written of the trees, with one more part
forward_shows : (m : Moment) (ts : List Tree) (r : Role) → IsForward r → arity r ≤ length ts
    → written_all m (trees (grown ts (as_part r))) ≡ followed (written_all m (trees ts)) (role_text m r)
forward_shows m ts (text bytes) is fits =
    written_append m (before 0 ts) (literal bytes ∷ [])
    ∙ ap (λ x. followed (written_all m (trees (before 0 ts))) x) (followed_none (Ok bytes))
    ∙ ap (λ us. followed (written_all m (trees us)) (Ok bytes)) (before_zero ts)
forward_shows m ts (shown c) is fits =
    let made : Tree = component (modern c) in
    written_append m (before 0 ts) (made ∷ [])
    ∙ ap (λ x. followed (written_all m (trees (before 0 ts))) x) (component_by_itself m c)
    ∙ ap (λ us. followed (written_all m (trees us)) (written.shown m c)) (before_zero ts)
forward_shows m ts (together count) is fits =
    written_append m (before count ts) (compound (trees (ending count ts)) ∷ [])
    ∙ ap (λ x. followed (written_all m (trees (before count ts))) x) (followed_none (written_all m (trees (ending count ts))))
    ∙ sym (written_append m (before count ts) (ending count ts))
    ∙ ap (λ us. written_all m (trees us)) (take-append-drop (length ts - count) ts)
    ∙ sym (followed_none (written_all m (trees ts)))
forward_shows m ts (perhaps format) is fits = absurd is
forward_shows m ts (either count) is fits = absurd is

-- The trees so far, and what is written of them.
pub record IsRead (m : Moment) (l : Text) (nodes : List RawNode) (i count : ℕ) (old room : Text) (at : ℕ) : Type 0 where
  pub ts : List Tree
  pub done : Text
  pub counted : length ts ≡ count
  pub few : count ≤ i
  pub fault : fault_from l i (drop i nodes) count ≡ node_fault l nodes
  pub read : read_on l (drop i nodes) (Some ts) ≡ read_nodes l nodes
  pub shows : written_all m (trees ts) ≡ Ok done
  pub put : IsAppended done old 0 room at
  pub inside : at ≤ length room

pub none_read : (m : Moment) (l : Text) (nodes : List RawNode) (old : Text) → IsRead m l nodes 0 0 old old 0
none_read m l nodes old = record {
  ts = [];
  done = [];
  counted = refl;
  few = omega arith;
  fault = refl;
  read = refl;
  shows = refl;
  put = nothing_appended old 0;
  inside = omega arith;
}

pub one_read : (m : Moment) (l : Text) (nodes : List RawNode) (i count : ℕ) (n d : RawNode) (old room new : Text) (at : ℕ)
    (r : Reached) → i < length nodes → n ≡ get_or nodes i d → IsRead m l nodes i count old room at
    → IsAfter m l n count room at new r → IsRead m l nodes (i + 1) r.count old new r.at
one_read m l nodes i count n d old room new at r below is so one = by (role_text m one.role) refl one.puts
  where
    rest : List RawNode
    rest = drop (i + 1) nodes

    cut : drop i nodes ≡ n ∷ drop (i + 1) nodes
    cut =
        let first : drop i nodes ≡ get_or nodes i d ∷ drop (i + 1) nodes = rw add-one (drop-cons nodes i d below) in
        first ∙ ap (λ y. y ∷ drop (i + 1) nodes) (sym is)

    ts : List Tree
    ts = grown so.ts (as_part one.role)

    fits : arity one.role ≤ length so.ts
    fits = subst (λ k. arity one.role ≤ k) (sym so.counted) one.fits

    fault : fault_from l (i + 1) (drop (i + 1) nodes) r.count ≡ node_fault l nodes
    fault =
        ap (fault_from l (i + 1) (drop (i + 1) nodes)) one.counted
        ∙ sym (after_step i count one.role (fault_from l (i + 1) (drop (i + 1) nodes)) one.fits)
        ∙ ap (λ o. fault_after i (count_after count o) (fault_from l (i + 1) (drop (i + 1) nodes))) (sym one.is)
        ∙ ap (λ xs. fault_from l i xs count) (sym cut) ∙ so.fault

    read : read_on l (drop (i + 1) nodes) (Some (grown so.ts (as_part one.role))) ≡ read_nodes l nodes
    read =
        ap (read_on l (drop (i + 1) nodes)) (sym (whole_role l n so.ts one.role one.is fits))
        ∙ ap (λ xs. read_on l xs (Some so.ts)) (sym cut) ∙ so.read

    shows : written_all m (trees (grown so.ts (as_part one.role))) ≡ followed (Ok so.done) (role_text m one.role)
    shows = forward_shows m so.ts one.role one.forward fits ∙ ap (λ x. followed x (role_text m one.role)) so.shows

    by : (x : Result Text Unshown) → role_text m one.role ≡ x → TriesToAppend x room at new (Some r.at)
        → IsRead m l nodes (i + 1) r.count old new r.at
    by (Err u) e put = absurd put
    by (Ok bytes) e put = record {
      ts = grown so.ts (as_part one.role);
      done = so.done ++ bytes;
      counted = grown_length so.ts one.role fits ∙ ap (λ k. k - arity one.role + 1) so.counted ∙ sym one.counted;
      few = omega (arith, one.counted, so.few);
      fault = fault;
      read = read;
      shows = shows ∙ ap (λ x. followed (Ok so.done) x) e;
      put = both_appended so.done bytes old room new 0 at r.at so.put put;
      inside = omega (
        arith,
        ap length put.front,
        length-take r.at new,
        length-take at room,
        so.inside,
        put.ends,
        put.same,
        length-append (take at room) bytes,
      );
    }

pub all_sound : (m : Moment) (l : Text) (nodes : List RawNode) (i count : ℕ) (old room : Text) (at : ℕ)
    → length nodes ≤ i → IsRead m l nodes i count old room at → node_fault l nodes ≡ None
all_sound m l nodes i count old room at end so =
    sym so.fault ∙ ap (λ xs. fault_from l i xs count) (drop_all i nodes end)

pub all_shown : (m : Moment) (l : Text) (nodes : List RawNode) (i count : ℕ) (old room : Text) (at : ℕ)
    → length nodes ≤ i → IsRead m l nodes i count old room at
    → written_all m (trees (node_trees l nodes)) ≡ Ok (take at room)
all_shown m l nodes i count old room at end so =
    let whole : node_trees l nodes ≡ so.ts =
    ap trees_of (sym so.read ∙ ap (λ xs. read_on l xs (Some so.ts)) (drop_all i nodes end)) in
    ap (λ ts. written_all m (trees ts)) whole ∙ so.shows ∙ ap Ok (sym so.put.front)

-- the component of a node
pub component_is : (k : Option RawNodeKind) (short : Bool) (bytes : Text) (o : Option Component) (count : ℕ)
    (f : Option Bool) (c : Component)
    → by_kind k (if short then None else Some (text bytes)) (shown_role o) count (perhaps_role f) ≡ Some (shown c)
    → o ≡ Some c
component_is None short bytes o count f c e = absurd cc
component_is (Some kind.Literal) true bytes o count f c e = absurd cc
component_is (Some kind.Literal) false bytes o count f c e = absurd cc
component_is (Some kind.Component) short bytes None count f c e = absurd cc
component_is (Some kind.Component) short bytes (Some d) count f c e = cc
component_is (Some kind.Compound) short bytes o count f c e = absurd cc
component_is (Some kind.Optional) short bytes o count None c e = absurd cc
component_is (Some kind.Optional) short bytes o count (Some b) c e = absurd cc
component_is (Some kind.First) short bytes o count f c e = absurd cc

-- what is put a second time in a buffer whose front is unchanged
pub again : (x : Result Text Unshown) (old mid new : Text) (at : ℕ) (r : Option ℕ) → IsKept old at mid
    → TriesToAppend x mid at new r → TriesToAppend x old at new r
again x old mid new at None kept put = record { same = put.same ∙ kept.same; front = put.front ∙ kept.front }
again (Err u) old mid new at (Some end) kept put = absurd put
again (Ok bytes) old mid new at (Some end) kept put = record {
  ends = put.ends;
  same = put.same ∙ kept.same;
  front = put.front ∙ ap (λ y. y ++ bytes) kept.front;
}
