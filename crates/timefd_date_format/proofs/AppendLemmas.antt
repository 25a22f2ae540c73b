-- What is appended to a text in a buffer.
use Rattle.std.proofs.Common.{ℕ, zero, suc, ◌≡◌, ◌∙◌, ◌+◌, ◌-◌, ◌≤◌, [], ◌∷◌, ◌++◌, length, take, drop, Option, Some, None, Result, Ok, Err, refl, sym, ap, subst, arith, append_assoc, append-nil, length-append, length-take, length-drop}
use Rattle.timefd_lang_component.specs.Tree.{Text}
use Rattle.timefd_date_format.specs.declared.field.Unshown.{Unshown}
use Rattle.timefd_date_format.specs.Outcomes.{IsOutcome}
use Rattle.timefd_date_format.proofs.OutcomeLemmas.{ends_with}
use Rattle.std.proofs.Math.Seq.{drop-append_seam}
use Rattle.timefd_date_format.specs.Appends.{IsAppended, IsKept, TriesToAppend}
use Rattle.std.proofs.lemmas.List.{drop-take, take_all}

take_front : (xs ys : Text) → take (length xs) (xs ++ ys) ≡ xs
take_front [] ys = refl
take_front (x ∷ xs) ys = ap (λ zs. x ∷ zs) (take_front xs ys)

pub take_take : (q k : ℕ) (xs : Text) → q ≤ k → take q (take k xs) ≡ take q xs
take_take zero k xs h = refl
take_take (suc q) zero xs h = absurd (omega (arith, h))
take_take (suc q) (suc k) [] h = refl
take_take (suc q) (suc k) (x ∷ xs) h = ap (λ ys. x ∷ ys) (take_take q k xs (omega (arith, h)))

-- The front of two texts that follow one another.
pub take_in : (k q : ℕ) (xs ys : Text) → length xs ≡ k → take (k + q) (xs ++ ys) ≡ xs ++ take q ys
take_in k q [] ys is = ap (λ n. take n ys) (omega (arith, is))
take_in k q (x ∷ xs) ys is =
    let next : k + q ≡ suc (length xs + q) = omega (arith, is) in
    ap (λ n. take n (x ∷ xs ++ ys)) next ∙ ap (λ zs. x ∷ zs) (take_in (length xs) q xs ys refl)

pub copied : (text old new : Text) (at end : ℕ) → end ≡ at + length text → end ≤ length old
    → new ≡ take at old ++ (text ++ drop end old) → IsAppended text old at new end
copied text old new at end is room e =
    let front : length (take at old ++ text) ≡ end =
    omega (arith, length-append (take at old) text, length-take at old, is, room) in
    let all : new ≡ (take at old ++ text) ++ drop end old = e ∙ sym (append_assoc (take at old) text (drop end old)) in
    record {
      ends = is;
      same = ap length all ∙ length-append (take at old ++ text) (drop end old)
          ∙ omega (arith, front, length-drop end old, room);
      front = ap (take end) all ∙ ap (λ n. take n ((take at old ++ text) ++ drop end old)) (sym front)
          ∙ take_front (take at old ++ text) (drop end old);
    }

pub both_appended : (a b old mid new : Text) (at middle end : ℕ) → IsAppended a old at mid middle
    → IsAppended b mid middle new end → IsAppended (a ++ b) old at new end
both_appended a b old mid new at middle end one two = record {
  ends = omega (arith, one.ends, two.ends, length-append a b);
  same = two.same ∙ one.same;
  front = two.front ∙ ap (λ x. x ++ b) one.front ∙ append_assoc (take at old) a b;
}

pub nothing_appended : (old : Text) (at : ℕ) → IsAppended [] old at old at
nothing_appended old at = record {
  ends = omega arith;
  same = refl;
  front = sym (append-nil (take at old));
}

pub kept : (old : Text) (at : ℕ) → IsKept old at old
kept old at = record { same = refl; front = refl }

-- If what was appended is then kept, so is what was in front of it.
pub kept_after : (a old mid new : Text) (at middle : ℕ) → at ≤ length old → IsAppended a old at mid middle
    → IsKept mid middle new → IsKept old at new
kept_after a old mid new at middle room one two =
    let size : length (take at old) ≡ at = omega (arith, length-take at old, room) in
    let before : at ≤ middle = omega (arith, one.ends) in record {
      same = two.same ∙ one.same;
      front = sym (take_take at middle new before) ∙ ap (take at) (two.front ∙ one.front)
          ∙ ap (λ n. take n (take at old ++ a)) (sym size) ∙ take_front (take at old) a;
    }

pub tries_after : (a b old mid new : Text) (at middle : ℕ) (r : Option ℕ) → at ≤ length old
    → IsAppended a old at mid middle → TriesToAppend (Ok b) mid middle new r → TriesToAppend (Ok (a ++ b)) old at new r
tries_after a b old mid new at middle None room one two = kept_after a old mid new at middle room one two
tries_after a b old mid new at middle (Some end) room one two = both_appended a b old mid new at middle end one two

pub rest_is : (xs : Text) (i : ℕ) → take (length xs - i) (drop i xs) ≡ drop i xs
rest_is xs i = take_all (length xs - i) (drop i xs) (omega (arith, length-drop i xs))

-- What was written at the end of a buffer is then appended.
pub through : (x : Result Text Unshown) (old short room new : Text) (start at end : ℕ)
    → IsOutcome x old short (Ok start) → IsAppended (drop start short) room at new end → TriesToAppend x room at new (Some end)
through (Ok text) old short room new start at end o put =
    subst (λ y. IsAppended y room at new end) (ends_with text old short start o) put
through (Err u) old short room new start at end o put = absurd o

-- What was appended, as a part of the text that holds it.
pub part : (text old new : Text) (at end : ℕ) → at + length text ≤ length old → IsAppended text old at new end
    → take (end - at) (drop at new) ≡ text
part text old new at end room put =
    let size : length (take at old) ≡ at = omega (arith, length-take at old, room) in
    let whole : at + (end - at) ≡ end = omega (arith, put.ends) in
    sym (drop-take at (end - at) new) ∙ ap (λ n. drop at (take n new)) whole ∙ ap (drop at) put.front
    ∙ ap (λ n. drop n (take at old ++ text)) (sym size) ∙ drop-append_seam (take at old) text

-- The first part of what was appended.
pub cut : (text shown old new : Text) (at end k : ℕ) → at + length text ≤ length old → IsAppended text old at new end
    → k ≤ length text → take k text ≡ shown → IsAppended shown old at new (at + k)
cut text shown old new at end k room p within is =
    let size : length (take at old) ≡ at = omega (arith, length-take at old, room) in record {
      ends = omega (arith, ap length is, length-take k text, within);
      same = p.same;
      front = sym (take_take (at + k) end new (omega (arith, p.ends, within))) ∙ ap (take (at + k)) p.front
          ∙ take_in at k (take at old) text size ∙ ap (λ y. take at old ++ y) is;
    }
