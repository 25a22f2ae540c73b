-- Texts, put one in front of another.
use Rattle.std.proofs.Common.{ℕ, zero, suc, ◌≡◌, ◌∙◌, ◌+◌, ◌<◌, ◌≤◌, List, [], ◌∷◌, ◌++◌, length, take, drop, map, get_or, Some, Result, Ok, Err, refl, sym, ap, subst, arith, append_assoc, add-one, drop-cons, length-append, length-take, length-drop}
use Rattle.std.proofs.lemmas.List.{take-append-le}
use Rattle.std.proofs.Math.Seq.{drop-append_seam}
use Rattle.timefd_lang_component.specs.Tree.{Text, Tree, trees}
use Rattle.timefd_date_moment.specs.declared.moment.Moment.{Moment}
use Rattle.timefd_date_format.specs.declared.cursor.WriteCursor.{WriteCursor}
use Rattle.timefd_date_format.specs.declared.cursor.WriteCursor.TheVariants as cursor
use Rattle.timefd_date_format.specs.declared.field.Unshown.{Unshown}
use Rattle.timefd_date_format.specs.Puts.{Puts}
use Rattle.timefd_date_format.specs.Writes.{IsIn, PutsOn, Writes}
use Rattle.timefd_date_format.specs.Written.{written, written_all, followed}

take_take : (q k : ℕ) (xs : Text) → q ≤ k → take q (take k xs) ≡ take q xs
take_take zero k xs h = refl
take_take (suc q) zero xs h = absurd (omega (arith, h))
take_take (suc q) (suc k) [] h = refl
take_take (suc q) (suc k) (x ∷ xs) h = ap (λ ys. x ∷ ys) (take_take q k xs (omega (arith, h)))

pub puts_after : (a b old mid new : Text) (e k q : ℕ) → e ≤ length old → Puts b old e mid (Some k)
    → Puts a mid k new (Some q) → Puts (a ++ b) old e new (Some q)
puts_after a b old mid new e k q size one two =
    let long : length (a ++ b) ≡ length a + length b = length-append a b in
    let sum : q + length (a ++ b) ≡ e = omega (arith, long, one.0, two.0) in
    let len : length (take k old) ≡ k = omega (arith, length-take k old, one.0, size) in
    let back : drop k mid ≡ b ++ drop e old =
    ap (drop k) one.1 ∙ ap (λ n. drop n (take k old ++ (b ++ drop e old))) (sym len) ∙
    drop-append_seam (take k old) (b ++ drop e old) in
    let front : take q mid ≡ take q old =
    ap (take q) one.1 ∙ take-append-le q (take k old) (b ++ drop e old) (omega (arith, len, two.0)) ∙
    take_take q k old (omega (arith, two.0)) in
    (sum, two.1 ∙ (λ i. front i ++ (a ++ back i)) ∙ ap (λ x. take q old ++ x) (sym (append_assoc a b (drop e old))))

pub on_after : (a b old mid new : Text) (e k q : WriteCursor) → IsIn (length old) e
    → PutsOn b old e mid k → PutsOn a mid k new q → PutsOn (a ++ b) old e new q
on_after a b old mid new cursor.NoRoom cursor.NoRoom q size one two = two
on_after a b old mid new cursor.NoRoom (cursor.At k) q size one two = absurd cc
on_after a b old mid new cursor.NoRoom (cursor.Unshown v) q size one two = absurd cc
on_after a b old mid new (cursor.Unshown u) cursor.NoRoom q size one two = absurd cc
on_after a b old mid new (cursor.Unshown u) (cursor.At k) q size one two = absurd cc
on_after a b old mid new (cursor.Unshown u) (cursor.Unshown v) q size one two = two ∙ one
on_after a b old mid new (cursor.At e) cursor.NoRoom cursor.NoRoom size one two =
    omega (arith, one, length-append a b)
on_after a b old mid new (cursor.At e) cursor.NoRoom (cursor.At q) size one two = absurd cc
on_after a b old mid new (cursor.At e) cursor.NoRoom (cursor.Unshown v) size one two = absurd cc
on_after a b old mid new (cursor.At e) (cursor.Unshown v) q size one two = absurd one
on_after a b old mid new (cursor.At e) (cursor.At k) cursor.NoRoom size one two =
    omega (arith, one.0, two, length-append a b)
on_after a b old mid new (cursor.At e) (cursor.At k) (cursor.Unshown v) size one two = absurd two
on_after a b old mid new (cursor.At e) (cursor.At k) (cursor.At q) size one two =
    puts_after a b old mid new e k q size one two

-- A component that shows nothing stays reported if what is put in front of it shows something.
reported_on : (a old mid new : Text) (u : Unshown) (k q : WriteCursor) → k ≡ cursor.Unshown u
    → PutsOn a mid k new q → q ≡ cursor.Unshown u
reported_on a old mid new u (cursor.At k) q is two = absurd cc
reported_on a old mid new u cursor.NoRoom q is two = absurd cc
reported_on a old mid new u (cursor.Unshown v) q is two = two ∙ is

pub writes_after : (x rest : Result Text Unshown) (old mid new : Text) (e k q : WriteCursor)
    → IsIn (length old) e → Writes rest old e mid k → Writes x mid k new q
    → Writes (followed x rest) old e new q
writes_after (Ok a) (Ok b) old mid new e k q size one two =
    on_after a b old mid new e k q size one two
writes_after (Ok a) (Err u) old mid new e k q size one two = reported_on a old mid new u k q one two
writes_after (Err v) rest old mid new e k q size one two = two

-- The position that results is in the buffer.
pub on_in : (a old new : Text) (e q : WriteCursor) → IsIn (length old) e → PutsOn a old e new q
    → IsIn (length new) q
on_in a old new e cursor.NoRoom size one = tt
on_in a old new e (cursor.Unshown u) size one = tt
on_in a old new cursor.NoRoom (cursor.At q) size one = absurd cc
on_in a old new (cursor.Unshown u) (cursor.At q) size one = absurd cc
on_in a old new (cursor.At e) (cursor.At q) size one =
    omega (
      arith,
      size,
      one.0,
      ap length one.1,
      length-append (take q old) (a ++ drop e old),
      length-append a (drop e old),
      length-take q old,
      length-drop e old,
    )

pub writes_in : (x : Result Text Unshown) (old new : Text) (e q : WriteCursor) → IsIn (length old) e
    → Writes x old e new q → IsIn (length new) q
writes_in (Ok a) old new e q size one = on_in a old new e q size one
writes_in (Err v) old new e cursor.NoRoom size one = tt
writes_in (Err v) old new e (cursor.Unshown u) size one = tt
writes_in (Err v) old new e (cursor.At q) size one = absurd cc

module _ {A : Type 0} (tree : A → Tree) (m : Moment) (xs : List A) (at : ℕ) (x : A)
    (below : at < length xs) (is : x ≡ get_or xs at x) where
  cut : drop at xs ≡ x ∷ drop (at + 1) xs
  cut =
      let first : drop at xs ≡ get_or xs at x ∷ drop (at + 1) xs = rw add-one (drop-cons xs at x below) in
      first ∙ ap (λ y. y ∷ drop (at + 1) xs) (sym is)

  -- One more part, in front of those that are written.
  pub one_more : (old mid new : Text) (e k q : WriteCursor)
      → IsIn (length old) e → Writes (written_all m (trees (map tree (drop (at + 1) xs)))) old e mid k
      → Writes (written m (tree x)) mid k new q
      → Writes (written_all m (trees (map tree (drop at xs)))) old e new q
  one_more old mid new e k q size rest one =
      subst (λ ys. Writes (written_all m (trees (map tree ys))) old e new q) (sym cut)
      (writes_after (written m (tree x)) (written_all m (trees (map tree (drop (at + 1) xs)))) old mid new
      e k q size rest one)
