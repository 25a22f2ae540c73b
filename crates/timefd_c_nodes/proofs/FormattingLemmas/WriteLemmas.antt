-- The text of nodes is the text of their leaves, written from the last to the first.
use Rattle.std.proofs.Common.{ℕ, zero, suc, ◌≡◌, ◌∙◌, ◌-◌, ◌^◌, ◌<◌, ◌≤◌, List, [], ◌∷◌, ◌++◌, Option, Some, None, length, take, drop, Result, Ok, Err, IfOk, refl, sym, ap, subst, arith, append_assoc, append-nil, length-append, length-take}
use Rattle.std.proofs.lemmas.List.{take_all, drop_all, take-append-drop}
use Rattle.timefd_lang_component.specs.declared.component.Component.{Component}
use Rattle.timefd_lang_component.specs.Modern.{modern}
use Rattle.timefd_lang_component.specs.Tree.{Text, Tree, component, compound, trees}
use Rattle.timefd_lang_component.proofs.ModernLemmas.{modern_again}
use Rattle.timefd_date_moment.specs.declared.moment.Moment.{Moment}
use Rattle.timefd_lang_node_list.specs.Leaves.{leaves_in}
use Rattle.timefd_date_format.specs.declared.cursor.WriteCursor.{WriteCursor}
use Rattle.timefd_date_format.specs.declared.cursor.WriteCursor.TheVariants as cursor
use Rattle.timefd_date_format.specs.declared.field.Unshown.{Unshown}
use Rattle.timefd_date_format.specs.declared.write.FormatError.{FormatError}
use Rattle.timefd_date_format.specs.declared.write.FormatError.TheVariants as fails
use Rattle.timefd_date_format.specs.Fields.{field}
use Rattle.timefd_date_format.specs.Fronts.{IsLen}
use Rattle.timefd_date_format.specs.Outcomes.{IsOutcome}
use Rattle.timefd_date_format.specs.Writes.{IsIn, Writes}
use Rattle.timefd_date_format.specs.Written.{followed, shown, text_of, written, written_all}
use Rattle.timefd_date_format.proofs.LeafLemmas.{by_leaves}
use Rattle.timefd_c_nodes.specs.Formatting.Cursors.{TriesToWrite}
use Rattle.timefd_c_nodes.specs.Formatting.Texts.{ShowsNodes}
use Rattle.timefd_c_nodes.specs.declared.formatting.format.NodesError.TheVariants as answers

-- the texts of all leaves are the texts of the trees
pub by_leaves_in : (m : Moment) (ts : List Tree) → written_all m (trees (leaves_in ts)) ≡ written_all m (trees ts)
by_leaves_in m ts = by_leaves m (compound (trees ts))

-- Remaining leaves, and what is written of the leaves after them.
pub record IsPutTo (m : Moment) (whole left : List Tree) (old new : Text) (at : WriteCursor) : Type 0 where
  pub done : List Tree
  pub split : whole ≡ left ++ done
  pub writes : Writes (written_all m (trees done)) old (cursor.At (length old)) new at
  pub inside : IsIn (length new) at

pub none_put : (m : Moment) (whole : List Tree) (old : Text)
    → IsPutTo m whole whole old old (cursor.At (length old))
none_put m whole old = record {
  done = [];
  split = sym (append-nil whole);
  writes = (omega arith, sym ((λ i. take_all (length old) old (omega arith) i ++ drop_all (length old) old (omega arith) i) ∙ append-nil old));
  inside = omega arith;
}

pub all_put : (m : Moment) (ts left : List Tree) (old new : Text) (e : WriteCursor)
    → IsPutTo m (leaves_in ts) left old new e → left ≡ []
    → Writes (written_all m (trees ts)) old (cursor.At (length old)) new e
all_put m ts left old new e w none =
    let all : w.done ≡ leaves_in ts = sym (w.split ∙ ap (λ x. x ++ w.done) none) in
    subst (λ x. Writes x old (cursor.At (length old)) new e)
    (ap (λ us. written_all m (trees us)) all ∙ by_leaves_in m ts) w.writes

-- the text is written at the end of the front of a buffer
pub put_in_front : (x : Result Text Unshown) (old new : Text) (end at : ℕ) → end ≤ length old
    → IsOutcome x (take end old) new (Ok at)
    → Writes x old (cursor.At end) (new ++ drop end old) (cursor.At at)
put_in_front (Ok text) old new end at h o =
    let size : length (take end old) ≡ end = omega (arith, length-take end old, h) in
    let front : take at (take end old) ≡ take at old = take_take at end old (omega (arith, size, o.0)) in (
      omega (arith, size, o.0),
      ap (λ y. y ++ drop end old) o.1
          ∙ append_assoc (take at (take end old)) text (drop end old)
          ∙ ap (λ y. y ++ (text ++ drop end old)) front,
    )
  where
    take_take : (q k : ℕ) (xs : Text) → q ≤ k → take q (take k xs) ≡ take q xs
    take_take zero k xs h = refl
    take_take (suc q) zero xs h = absurd (omega (arith, h))
    take_take (suc q) (suc k) [] h = refl
    take_take (suc q) (suc k) (x ∷ xs) h = ap (λ ys. x ∷ ys) (take_take q k xs (omega (arith, h)))
put_in_front (Err v) old new end at h o = absurd o

-- the text was not written there
pub not_put : (x : Result Text Unshown) (old new : Text) (end : ℕ) (e : FormatError) → end ≤ length old
    → IsOutcome x (take end old) new (Err e) → IfOk x (λ text. end < length text)
not_put (Ok text) old new end fails.Room h o = omega (arith, length-take end old, h, o)
not_put (Ok text) old new end (fails.Unshown u) h o = absurd o
not_put (Err v) old new end e h o = tt

-- no bytes are written anywhere
pub nothing_put : (old : Text) (end : ℕ) → Writes (Ok []) old (cursor.At end) old (cursor.At end)
nothing_put old end = (omega arith, sym (take-append-drop end old))

-- If there is no room for a text that something follows, there is no room for all of it.
pub no_room_for : (x y z : Result Text Unshown) (old mid : Text) (end : ℕ) → IfOk y (λ text. end < length text)
    → Writes z old (cursor.At (length old)) mid (cursor.At end)
    → IfOk (followed x (followed y z)) (λ text. length old < length text)
no_room_for (Err u) y z old mid end h w = tt
no_room_for (Ok a) (Err u) z old mid end h w = tt
no_room_for (Ok a) (Ok b) (Err u) old mid end h w = absurd cc
no_room_for (Ok a) (Ok b) (Ok c) old mid end h w =
    omega (arith, length-append a (b ++ c), length-append b c, h, w.0)

-- a component by itself writes what the component shows
pub component_by_itself : (m : Moment) (c : Component) → written_all m (trees (component (modern c) ∷ [])) ≡ shown m c
component_by_itself m c =
    by_leaves m (component (modern c)) ∙ ap (λ d. text_of d (field m d)) (modern_again c (modern c) refl)

-- A text as long as the buffer is the whole buffer.
pub exact : (text old new : Text) (p : WriteCursor) → length text ≡ length old
    → Writes (Ok text) old (cursor.At (length old)) new p → new ≡ text
exact text old new (cursor.At at) same w =
    let none : at ≡ 0 = omega (arith, same, w.0) in
    w.1 ∙ ap (λ n. take n old ++ (text ++ drop (length old) old)) none
    ∙ ap (λ y. text ++ y) (drop_all (length old) old (omega arith)) ∙ append-nil text
exact text old new cursor.NoRoom same w = absurd (omega (arith, same, w))
exact text old new (cursor.Unshown u) same w = absurd w

-- Lengths.

-- the length of what is written of the leaves after the remaining ones
pub record IsLenTo (m : Moment) (whole left : List Tree) (len : Result ℕ Unshown) : Type 0 where
  pub done : List Tree
  pub split : whole ≡ left ++ done
  pub is : IsLen (written_all m (trees done)) len

pub none_counted : (m : Moment) (whole : List Tree) → IsLenTo m whole whole (Ok 0)
none_counted m whole = record { done = []; split = sym (append-nil whole); is = omega arith }

pub one_counted : (m : Moment) (whole left rest : List Tree) (t : Tree) (a b c : Result ℕ Unshown)
    → IsLenTo m whole left b → left ≡ rest ++ t ∷ [] → IsLen (written m t) a
    → ((x y : Result Text Unshown) → IsLen x a → IsLen y b → IsLen (followed x y) c)
    → IsLenTo m whole rest c
one_counted m whole left rest t a b c w is one plus = record {
  done = t ∷ w.done;
  split = w.split ∙ ap (λ x. x ++ w.done) is ∙ append_assoc rest (t ∷ []) w.done;
  is = plus (written m t) (written_all m (trees w.done)) one w.is;
}

pub all_counted : (m : Moment) (ts left : List Tree) (len : Result ℕ Unshown)
    → IsLenTo m (leaves_in ts) left len → left ≡ [] → IsLen (written_all m (trees ts)) len
all_counted m ts left len w none =
    let all : w.done ≡ leaves_in ts = sym (w.split ∙ ap (λ x. x ++ w.done) none) in
    subst (λ x. IsLen x len) (ap (λ us. written_all m (trees us)) all ∙ by_leaves_in m ts) w.is

-- Answers.

pub shows : (x : Result Text Unshown) (old new : Text) (len n : ℕ) → IsLen x (Ok len)
    → ((text : Text) → x ≡ Ok text → length text ≤ length old
    → (new ≡ text ++ drop (length text) old) × (n ≡ length text))
    → ((text : Text) → x ≡ Ok text → length old < length text → (new ≡ old) × (n ≡ 0))
    → ShowsNodes x old new (Ok (record { len = len; written = n }))
shows (Ok text) old new len n is whole short = record {
  len = is;
  whole = whole text refl;
  too_short = short text refl;
}
shows (Err u) old new len n is whole short = absurd is

pub shows_none : (x : Result Text Unshown) (old : Text) (u : Unshown) → IsLen x (Err u)
    → ShowsNodes x old old (Err (answers.Unshown u))
shows_none (Ok text) old u is = absurd is
shows_none (Err v) old u is = (is, refl)

-- A length that fits is the length of the text.
pub len_is : (x : Result Text Unshown) (text : Text) (len n : ℕ) → IsLen x (Ok len) → x ≡ Ok text → len ≤ n
    → n < 2 ^ 64 - 1 → len ≡ length text
len_is x text len n is e fits small =
    omega (arith, subst (λ y. IsLen y (Ok len)) e is, fits, small)

pub len_short : (x : Result Text Unshown) (text : Text) (len n : ℕ) → IsLen x (Ok len) → x ≡ Ok text → n < len
    → n < length text
len_short x text len n is e short = omega (arith, subst (λ y. IsLen y (Ok len)) e is, short)

-- a text that was written to the front of a buffer
pub front_exact : (x : Result Text Unshown) (text old new : Text) (len : ℕ) (p : WriteCursor) → x ≡ Ok text
    → len ≡ length text → len ≤ length old
    → Writes x (take len old) (cursor.At (length (take len old))) new p → new ++ drop len old ≡ text ++ drop (length text) old
front_exact x text old new len p e is fits w =
    let size : length text ≡ length (take len old) = omega (arith, is, fits, length-take len old) in
    (λ i. exact text (take len old) new p size (subst (λ y. Writes y (take len old) (cursor.At (length (take len old))) new p) e w) i
    ++ drop (is i) old)

-- the same, if the length of the text is known
pub front_written : (x : Result Text Unshown) (text old new : Text) (len : ℕ) (r : Option ℕ) → x ≡ Ok text
    → len ≡ length text → len ≤ length old → TriesToWrite x (take len old) (length (take len old)) new r
    → new ++ drop len old ≡ text ++ drop (length text) old
front_written x text old new len None e is fits w =
    absurd (omega (arith, subst (λ y. IfOk y (λ t. length (take len old) < length t)) e w, is, fits, length-take len old))
front_written x text old new len (Some at) e is fits w =
    front_exact x text old new len (cursor.At at) e is fits w
