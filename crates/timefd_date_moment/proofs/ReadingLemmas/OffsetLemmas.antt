-- The offset from UTC that fields determine.
use Rattle.std.proofs.Common.{ℕ, ◌≡◌, ◌∙◌, ◌/◌, ◌%◌, ◌⊎◌, inl, inr, ◌==◌, ◌||◌, Bool, true, false, Option, Some, None, Result, Ok, Err, if◌then◌else◌, refl, sym, ap, subst}
use Rattle.std.proofs.lemmas.Bool.{eqb-true, or_cases}
use Rattle.timefd_date_moment.specs.declared.fields.fields.Fields.{Fields}
use Rattle.timefd_date_moment.specs.declared.fields.fields.Signed.{Signed}
use Rattle.timefd_date_moment.specs.Fields.Readings.{same}
use Rattle.timefd_date_moment.specs.declared.offset.UtcOffset.{UtcOffset}
use Rattle.timefd_date_moment.specs.declared.reading.error.ValueError.TheVariants as error
use Rattle.timefd_date_moment.specs.declared.reading.part.OffsetPart.{OffsetPart}
use Rattle.timefd_date_moment.specs.declared.reading.part.Part.TheVariants as part
use Rattle.timefd_date_moment.specs.declared.reading.offsets.Shift.{Shift}
use Rattle.timefd_date_moment.specs.Reading.Faults.{offset_fault, shift_fault}
use Rattle.timefd_date_moment.specs.Reading.Ways.{IsDetermined}
use Rattle.timefd_date_moment.specs.Reading.Shown.{OffsetAgrees, first_false, is_count_or_zero, is_shown, offset_has, offset_parts}
use Rattle.timefd_date_moment.specs.Reading.Offsets.{HasShift, IsOffsetOf, IsSame, Selects, ShiftHas, shift_at, shift_read}
use Rattle.std.specs.Prelude.{is_some}
use Rattle.timefd_date_moment.proofs.ReadingLemmas.ShownLemmas.{clash, offset_agrees, some_false}
use Rattle.timefd_date_moment.specs.Reading.Times.{is_left_out, number}
use Rattle.timefd_date_moment.proofs.ReadingLemmas.TimeLemmas.{number_is}
use Rattle.timefd_date_moment.proofs.ReadingLemmas.YearLemmas.{both}

determined : (f : Fields) (s : Shift) → shift_read f ≡ Ok s → IsDetermined (shift_read f)
determined f s e = subst (λ (r : Result Shift OffsetPart). IsDetermined r) (sym e) tt

same_is : (a b : Bool) → same a b ≡ true → a ≡ b
same_is true true e = refl
same_is true false e = absurd cc
same_is false true e = absurd cc
same_is false false e = refl

pub sign_is : (a b : Bool) (n : ℕ) → ((n == 0) || same a b) ≡ true → (n ≡ 0) ⊎ (a ≡ b)
sign_is a b n e = by (or_cases (n == 0) (same a b) e)
  where
    by : ((n == 0) ≡ true) ⊎ (same a b ≡ true) → (n ≡ 0) ⊎ (a ≡ b)
    by (inl z) = inl (eqb-true n 0 z)
    by (inr s) = inr (same_is a b s)

abbrev shift_in : Shift → Result Shift OffsetPart → Shift
shift_in s (Ok r) = r
shift_in s (Err p) = s

numbers : (f : Fields) (h : Signed) (t : Bool) (s : Shift)
    → (if t then Err OffsetPart.Minute else Ok (record {
      is_negative = h.is_negative;
      hour = h.magnitude;
      minute = number f.offset_minute;
      second = number f.offset_second;
    })) ≡ Ok s
    → (h.is_negative ≡ s.is_negative) × (h.magnitude ≡ s.hour) × (number f.offset_minute ≡ s.minute)
    × (number f.offset_second ≡ s.second)
numbers f h true s e = absurd cc
numbers f h false s e =
    let is = ap (shift_in s) e in
    (ap (λ (x : Shift). x.is_negative) is, ap (λ (x : Shift). x.hour) is, ap (λ (x : Shift). x.minute) is, ap (λ (x : Shift). x.second) is)

sign_moved : (a b c : Bool) (n : ℕ) → a ≡ b → (n ≡ 0) ⊎ (a ≡ c) → (n ≡ 0) ⊎ (b ≡ c)
sign_moved a b c n e (inl z) = inl z
sign_moved a b c n e (inr s) = inr (sym e ∙ s)

shift_is : (f : Fields) (h : Option Signed) (s : Shift) (o : UtcOffset) → shift_at f h ≡ Ok s
    → is_shown h o.is_negative o.seconds (o.seconds / 3600) ≡ true
    → is_count_or_zero f.offset_minute (o.seconds / 60 % 60) ≡ true
    → is_count_or_zero f.offset_second (o.seconds % 60) ≡ true → ShiftHas s o
shift_is f None s o e k m n = absurd cc
shift_is f (Some h) s o e k m n =
    let is = numbers f h (is_left_out f.offset_minute (is_some f.offset_second)) s e in
    let parts = both (h.magnitude == o.seconds / 3600)
    ((o.seconds == 0) || same h.is_negative o.is_negative) k in (
      sym is.1 ∙ eqb-true h.magnitude (o.seconds / 3600) parts.0,
      sym is.2 ∙ number_is f.offset_minute (o.seconds / 60 % 60) m,
      sym is.3 ∙ number_is f.offset_second (o.seconds % 60) n,
      sign_moved h.is_negative s.is_negative o.is_negative o.seconds is.0
          (sign_is h.is_negative o.is_negative o.seconds parts.1),
    )

pub shift_has : (f : Fields) (s : Shift) (o : UtcOffset) → shift_read f ≡ Ok s → OffsetAgrees f o
    → ShiftHas s o
shift_has f s o e a =
    shift_is f f.offset_hour s o e (a OffsetPart.Hour) (a OffsetPart.Minute) (a OffsetPart.Second)

pub same_parts : (f : Fields) (p : OffsetPart) (o r : UtcOffset) → IsSame o r
    → offset_has f o p ≡ offset_has f r p
same_parts f OffsetPart.Hour o r s = (λ i. is_shown f.offset_hour (s.1 i) (s.0 i) (s.0 i / 3600))
same_parts f OffsetPart.Minute o r s = ap (λ (n : ℕ). is_count_or_zero f.offset_minute (n / 60 % 60)) s.0
same_parts f OffsetPart.Second o r s = ap (λ (n : ℕ). is_count_or_zero f.offset_second (n % 60)) s.0

pub agreed : (f : Fields) (s : Shift) (o : UtcOffset) (part : Option OffsetPart) → shift_read f ≡ Ok s
    → part ≡ first_false (offset_has f o) offset_parts → part ≡ None → IsOffsetOf f (Ok o)
agreed f s o part e is none = (offset_agrees f o (sym is ∙ none), determined f s e)

otherwise : (f : Fields) (o x : UtcOffset) (p : OffsetPart) → first_false (offset_has f o) offset_parts ≡ Some p
    → IsSame o x → offset_has f x p ≡ false
otherwise f o x p off same = sym (same_parts f p o x same) ∙ some_false (offset_has f o) offset_parts p off

first_of_same : (f : Fields) (o q : UtcOffset) → IsSame o q
    → first_false (offset_has f o) offset_parts ≡ first_false (offset_has f q) offset_parts
first_of_same f o q s = λ i. first_false (λ p. same_parts f p o q s i) offset_parts

pub contradicted : (f : Fields) (s : Shift) (o : UtcOffset) (first : Option OffsetPart) (p : OffsetPart)
    → shift_read f ≡ Ok s → ShiftHas s o → Selects (ShiftHas s) (Ok o)
    → first ≡ first_false (offset_has f o) offset_parts → first ≡ Some p
    → IsOffsetOf f (Err (error.Contradiction (part.Offset p)))
contradicted f s o first p shift has one is some = (
  determined f s shift,
  (λ x a.
      clash (offset_has f x p) (otherwise f o x p (sym is ∙ some) (one x (shift_has f s x shift a))) (a p)),
  (
    (λ x h.
        sym (first_of_same f o x (one x (subst (λ (r : Result Shift OffsetPart). HasShift r x) shift h)))
        ∙ sym is ∙ some),
    (λ none. absurd (none o (subst (λ (r : Result Shift OffsetPart). HasShift r o) (sym shift) has))),
  ),
)

pub unfound : (f : Fields) (s : Shift) (p : OffsetPart) → shift_read f ≡ Ok s
    → Selects (ShiftHas s) (Err p) → shift_fault s ≡ Some p
    → IsOffsetOf f (Err (error.Contradiction (part.Offset p)))
unfound f s p shift none fault = (
  determined f s shift,
  (λ x a. none x (shift_has f s x shift a)),
  (
    (λ x h. absurd (none x (subst (λ (r : Result Shift OffsetPart). HasShift r x) shift h))),
    (λ _. ap offset_fault shift ∙ fault),
  ),
)
