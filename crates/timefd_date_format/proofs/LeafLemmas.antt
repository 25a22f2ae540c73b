-- What is written for a tree is what is written for its leaves, one after another.
use Rattle.std.proofs.Common.{◌≡◌, ◌∙◌, true, false, List, [], ◌∷◌, ◌++◌, length, Result, Ok, Err, IfOk, refl, sym, ap, subst, arith, append_assoc, append-nil}
use Rattle.std.specs.Str.{IsUtf8}
use Rattle.std.proofs.lemmas.Str.{IsUtf8-nil}
use Rattle.std.proofs.lemmas.List.{take_all, drop_all}
use Rattle.timefd_lang_component.specs.Tree.{Text, Tree, component, literal, compound, optional, first, Trees, no_trees, more_trees, trees}
use Rattle.timefd_date_moment.specs.declared.moment.Moment.{Moment}
use Rattle.timefd_lang_node_list.specs.Leaves.{leaves, leaves_all, leaves_first}
use Rattle.timefd_date_format.specs.declared.cursor.WriteCursor.{WriteCursor}
use Rattle.timefd_date_format.specs.declared.cursor.WriteCursor.TheVariants as cursor
use Rattle.timefd_date_format.specs.declared.field.Unshown.{Unshown}
use Rattle.timefd_date_format.specs.Writes.{IsIn, Writes}
use Rattle.timefd_date_format.specs.Written.{written, written_all, written_first, followed, shown}
use Rattle.timefd_date_format.proofs.Utf8Lemmas.{followed_utf8}
use Rattle.timefd_date_format.proofs.WalkLemmas.{writes_after, writes_in}

followed-none : (x : Result Text Unshown) → followed x (Ok []) ≡ x
followed-none (Ok a) = ap Ok (append-nil a)
followed-none (Err u) = refl

none-followed : (x : Result Text Unshown) → followed (Ok []) x ≡ x
none-followed (Ok a) = refl
none-followed (Err u) = refl

followed-assoc : (x y z : Result Text Unshown) → followed (followed x y) z ≡ followed x (followed y z)
followed-assoc (Err u) y z = refl
followed-assoc (Ok a) (Err v) z = refl
followed-assoc (Ok a) (Ok b) (Err w) = refl
followed-assoc (Ok a) (Ok b) (Ok c) = ap Ok (append_assoc a b c)

pub written_append : (m : Moment) (ts us : List Tree) → written_all m (trees (ts ++ us))
    ≡ followed (written_all m (trees ts)) (written_all m (trees us))
written_append m [] us = sym (none-followed (written_all m (trees us)))
written_append m (t ∷ ts) us =
    ap (followed (written m t)) (written_append m ts us)
    ∙ sym (followed-assoc (written m t) (written_all m (trees ts)) (written_all m (trees us)))

mutual
  pub by_leaves : (m : Moment) (t : Tree) → written_all m (trees (leaves t)) ≡ written m t
  by_leaves m (component c) = followed-none (shown m c)
  by_leaves m (literal bytes) = ap Ok (append-nil bytes)
  by_leaves m (compound ts) = by_leaves_all m ts
  by_leaves m (optional true t) = by_leaves m t
  by_leaves m (optional false t) = refl
  by_leaves m (first ts) = by_leaves_first m ts

  by_leaves_all : (m : Moment) (ts : Trees) → written_all m (trees (leaves_all ts)) ≡ written_all m ts
  by_leaves_all m no_trees = refl
  by_leaves_all m (more_trees t ts) =
      written_append m (leaves t) (leaves_all ts) ∙
      (λ i. followed (by_leaves m t i) (by_leaves_all m ts i))

  by_leaves_first : (m : Moment) (ts : Trees) → written_all m (trees (leaves_first ts)) ≡ written_first m ts
  by_leaves_first m no_trees = refl
  by_leaves_first m (more_trees t ts) = by_leaves m t

-- The leaves in front of a position, and what is written after it.
pub record IsWrittenTo (m : Moment) (whole left : List Tree) (old new : Text) (at : WriteCursor) : Type 0 where
  pub done : List Tree
  pub split : whole ≡ left ++ done
  pub writes : Writes (written_all m (trees done)) old (cursor.At (length old)) new at
  pub inside : IsIn (length new) at
  pub utf8 : IfOk (written_all m (trees done)) IsUtf8

pub nothing_yet : (m : Moment) (whole : List Tree) (old : Text) → IsWrittenTo m whole whole old old (cursor.At (length old))
nothing_yet m whole old = record {
  done = [];
  split = sym (append-nil whole);
  writes = (omega arith, sym ((λ i. take_all (length old) old (omega arith) i ++ drop_all (length old) old (omega arith) i) ∙ append-nil old));
  inside = omega arith;
  utf8 = IsUtf8-nil;
}

pub one_leaf : (m : Moment) (whole left rest : List Tree) (t : Tree) (old mid new : Text) (e k : WriteCursor)
    → IsWrittenTo m whole left old mid e → left ≡ rest ++ t ∷ [] → Writes (written m t) mid e new k
    → IfOk (written m t) IsUtf8 → IsWrittenTo m whole rest old new k
one_leaf m whole left rest t old mid new e k w is one text = record {
  done = t ∷ w.done;
  split = w.split ∙ ap (λ x. x ++ w.done) is ∙ append_assoc rest (t ∷ []) w.done;
  writes = writes_after (written m t) (written_all m (trees w.done)) old mid new (cursor.At (length old)) e k
      (omega arith) w.writes one;
  inside = writes_in (written m t) mid new e k w.inside one;
  utf8 = followed_utf8 (written m t) (written_all m (trees w.done)) text w.utf8;
}

pub all_leaves : (m : Moment) (tree : Tree) (left : List Tree) (old new : Text) (e : WriteCursor)
    → IsWrittenTo m (leaves tree) left old new e → left ≡ []
    → Writes (written m tree) old (cursor.At (length old)) new e
all_leaves m tree left old new e w none =
    let all : w.done ≡ leaves tree = sym (w.split ∙ ap (λ x. x ++ w.done) none) in
    subst (λ x. Writes x old (cursor.At (length old)) new e)
    (ap (λ ts. written_all m (trees ts)) all ∙ by_leaves m tree) w.writes

pub all_utf8 : (m : Moment) (tree : Tree) (left : List Tree) (old new : Text) (e : WriteCursor)
    → IsWrittenTo m (leaves tree) left old new e → left ≡ [] → IfOk (written m tree) IsUtf8
all_utf8 m tree left old new e w none =
    let all : w.done ≡ leaves tree = sym (w.split ∙ ap (λ x. x ++ w.done) none) in
    subst (λ x. IfOk x IsUtf8) (ap (λ ts. written_all m (trees ts)) all ∙ by_leaves m tree) w.utf8
