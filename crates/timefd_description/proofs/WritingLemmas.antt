-- Texts over the front of a buffer, by leaves that are found from the last one on.
use Rattle.std.proofs.Common.{ℕ, ◌≡◌, ◌∙◌, ◌+◌, ◌-◌, ◌<◌, ◌≤◌, IfErr, IfOk, List, [], ◌∷◌, ◌++◌, drop, length, map, set, take, Result, Ok, Err, sym, ap, subst, arith, append_assoc, append-nil, length-drop, length-set}
use Rattle.std.specs.Bool.{⊤}
use Rattle.std.proofs.lemmas.List.{drop-set, drop_all, take_all}
use Rattle.timefd_parse.specs.Reserved.{reserve}
use Rattle.timefd_parse.specs.Tree.{Text, Tree, trees}
use Rattle.timefd_date_format.specs.declared.field.Unshown.{Unshown}
use Rattle.timefd_date_format.specs.declared.write.FormatError.{FormatError}
use Rattle.timefd_date_format.specs.declared.write.FormatError.TheVariants as fails
use Rattle.timefd_date_format.specs.Fronts.{IsFront, IsLen}
use Rattle.timefd_date_format.specs.Written.{followed, written, written_all}
use Rattle.timefd_date_format.proofs.LeafLemmas.{by_leaves}
use Rattle.timefd_date_format.proofs.ModernLemmas.{view_modern}
use Rattle.timefd_date_format.proofs.RoomLemmas.{fits}
use Rattle.timefd_date_moment.specs.declared.moment.Moment.{Moment}
use Rattle.timefd_lang_node_list.specs.declared.leaves.Leaf.{Leaf}
use Rattle.timefd_lang_node_list.specs.LeafMeaning.{leaf_tree}
use Rattle.timefd_lang_node_list.specs.Leaves.{leaves}
use Rattle.timefd_lang_node_list.specs.Views.{view_tree}
use Rattle.timefd_lang_node_list.specs.declared.view.View.{View}

abbrev is_unshown : FormatError → Type 0
is_unshown (fails.Unshown u) = ⊤
is_unshown fails.Room = ⊥

-- The leaves from this index of the room on follow those that are left.
pub record AreListedFrom (whole left : List Tree) (from : ℕ) (room : List Leaf) : Type 0 where
  pub within : from ≤ length room
  pub split : whole ≡ left ++ map leaf_tree (drop from room)

pub none_listed : (whole : List Tree) (from : ℕ) (room : List Leaf) → from ≡ length room
    → AreListedFrom whole whole from room
none_listed whole from room is = record {
  within = omega (arith, is);
  split = sym (ap (λ ls. whole ++ map leaf_tree ls) (drop_all from room (omega (arith, is))) ∙ append-nil whole);
}

pub one_listed : (whole left rest : List Tree) (from at : ℕ) (room new : List Leaf) (l : Leaf)
    → AreListedFrom whole left from room → left ≡ rest ++ leaf_tree l ∷ [] → at + 1 ≡ from → new ≡ set room at l
    → AreListedFrom whole rest at new
one_listed whole left rest from at room new l w is next sets =
    let below : at < length room = omega (arith, next, w.within) in
    let more : drop at new ≡ l ∷ drop from room =
    ap (drop at) sets ∙ drop-set room at l below ∙ ap (λ n. l ∷ drop n room) next in
    record {
      within = omega (arith, below, ap length sets, length-set room at l);
      split = w.split ∙ ap (λ x. x ++ map leaf_tree (drop from room)) is
          ∙ append_assoc rest (leaf_tree l ∷ []) (map leaf_tree (drop from room))
          ∙ ap (λ ls. rest ++ map leaf_tree ls) (sym more);
    }

pub all_listed : (whole left : List Tree) (from : ℕ) (room : List Leaf) → AreListedFrom whole left from room
    → left ≡ [] → whole ≡ map leaf_tree (drop from room)
all_listed whole left from room w none = w.split ∙ ap (λ x. x ++ map leaf_tree (drop from room)) none

pub few : (m : Moment) (tree : Tree) (room : List Leaf) (from : ℕ) (old new : Text) (r : Result ℕ FormatError)
    → leaves tree ≡ map leaf_tree (drop from room)
    → IsFront (written_all m (trees (map leaf_tree (take (length room - from) (drop from room))))) old new r
    → IsFront (written m tree) old new r
few m tree room from old new r is front =
    let all : take (length room - from) (drop from room) ≡ drop from room =
    take_all (length room - from) (drop from room) (omega (arith, length-drop from room)) in
    subst (λ x. IsFront x old new r)
    (ap (λ ls. written_all m (trees (map leaf_tree ls))) all
    ∙ (ap (λ ts. written_all m (trees ts)) (sym is) ∙ by_leaves m tree)) front

-- The leaves after those that are left have this length.
pub record IsLenTo (m : Moment) (whole left : List Tree) (len : Result ℕ Unshown) : Type 0 where
  pub done : List Tree
  pub split : whole ≡ left ++ done
  pub is : IsLen (written_all m (trees done)) len

pub none_counted : (m : Moment) (whole : List Tree) → IsLenTo m whole whole (Ok 0)
none_counted m whole = record { done = []; split = sym (append-nil whole); is = omega arith }

pub one_counted : (m : Moment) (whole left rest : List Tree) (t : Tree) (a b c : Result ℕ Unshown)
    → IsLenTo m whole left b → left ≡ rest ++ t ∷ [] → IsLen (written m t) a
    → ((x y : Result Text Unshown) → IsLen x a → IsLen y b → IsLen (followed x y) c)
    → IsLenTo m whole rest c
one_counted m whole left rest t a b c w is one plus = record {
  done = t ∷ w.done;
  split = w.split ∙ ap (λ x. x ++ w.done) is ∙ append_assoc rest (t ∷ []) w.done;
  is = plus (written m t) (written_all m (trees w.done)) one w.is;
}

pub all_counted : (m : Moment) (tree : Tree) (left : List Tree) (len : Result ℕ Unshown)
    → IsLenTo m (leaves tree) left len → left ≡ [] → IsLen (written m tree) len
all_counted m tree left len w none =
    let all : w.done ≡ leaves tree = sym (w.split ∙ ap (λ x. x ++ w.done) none) in
    subst (λ x. IsLen x len) (ap (λ us. written_all m (trees us)) all ∙ by_leaves m tree) w.is

-- A buffer of the reserved bytes has room.
pub enough : (m : Moment) (v : View) (old new : Text) (r : Result ℕ FormatError)
    → IsFront (written m (view_tree v)) old new r → reserve (view_tree v) ≤ length old
    → IfErr r (λ error. ¬ (error ≡ fails.Room))
enough m v old new (Ok len) front room = tt
enough m v old new (Err (fails.Unshown u)) front room = λ same. absurd (unshown same)
  where
    unshown : fails.Unshown u ≡ fails.Room → ⊥
    unshown same = subst is_unshown same tt
enough m v old new (Err fails.Room) front room =
    absurd (by (written m (view_tree v)) (fits m (view_tree v) (view_modern v)) front)
  where
    by : (x : Result Text Unshown) → IfOk x (λ a. length a ≤ reserve (view_tree v))
        → IsFront x old new (Err fails.Room) → ⊥
    by (Ok a) f h = omega (arith, room, f, h.0)
    by (Err u) f h = h
