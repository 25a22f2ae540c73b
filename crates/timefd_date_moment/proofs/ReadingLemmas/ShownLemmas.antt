-- If no part differs, all agree.
use Rattle.std.proofs.Common.{ℕ, zero, suc, ◌≡◌, ◌∙◌, Bool, true, false, List, [], ◌∷◌, Option, Some, None, if◌then◌else◌, refl, sym, ap, subst}
use Rattle.std.specs.Prelude.{⊤}
use Rattle.timefd_date_moment.specs.declared.fields.fields.Fields.{Fields}
use Rattle.timefd_date_moment.specs.declared.date.Date.{Date}
use Rattle.timefd_date_moment.specs.declared.time.Time.{Time}
use Rattle.timefd_date_moment.specs.declared.offset.UtcOffset.{UtcOffset}
use Rattle.timefd_date_moment.specs.Calendar.{IsDay}
use Rattle.timefd_date_moment.specs.declared.reading.part.DatePart.{DatePart}
use Rattle.timefd_date_moment.specs.declared.reading.part.TimePart.{TimePart}
use Rattle.timefd_date_moment.specs.declared.reading.part.OffsetPart.{OffsetPart}
use Rattle.timefd_date_moment.specs.Reading.Dates.{IsSame}
use Rattle.timefd_date_moment.specs.Reading.Shown.{DateAgrees, OffsetAgrees, TimeAgrees, date_has, date_parts, first_false, offset_has, offset_parts, time_has, time_parts}

abbrev pub TrueAt : {A : Type 0} → (A → Bool) → List A → ℕ → Type 0
TrueAt has [] n = ⊤
TrueAt has (p ∷ ps) zero = has p ≡ true
TrueAt has (p ∷ ps) (suc n) = TrueAt has ps n

step : {A : Type 0} (has : A → Bool) (p : A) (ps : List A) (t : Bool) → has p ≡ t
    → (if t then first_false has ps else Some p) ≡ None → (has p ≡ true) × (first_false has ps ≡ None)
step has p ps true is e = (is, e)
step has p ps false is e = absurd cc

pub true_at : {A : Type 0} (has : A → Bool) (ps : List A) (n : ℕ) → first_false has ps ≡ None → TrueAt has ps n
true_at has [] n e = tt
true_at has (p ∷ ps) zero e = (step has p ps (has p) refl e).0
true_at has (p ∷ ps) (suc n) e = true_at has ps n (step has p ps (has p) refl e).1

abbrev value_of : {A : Type 0} → A → Option A → A
value_of a None = a
value_of a (Some b) = b

pub some_false : {A : Type 0} (has : A → Bool) (ps : List A) (p : A) → first_false has ps ≡ Some p
    → has p ≡ false
some_false has [] p e = absurd cc
some_false has (q ∷ ps) p e = by (has q) refl (some_false has ps p) e
  where
    by : (t : Bool) → has q ≡ t → (first_false has ps ≡ Some p → has p ≡ false)
        → (if t then first_false has ps else Some q) ≡ Some p → has p ≡ false
    by true is after h = after h
    by false is after h = ap has (sym (ap (value_of q) h)) ∙ is

pub clash : (b : Bool) → b ≡ false → b ≡ true → ⊥
clash true e g = absurd cc
clash false e g = absurd cc

-- dates

pub date_agrees : (f : Fields) (d : Date) → first_false (date_has f d) date_parts ≡ None → DateAgrees f d
date_agrees f d e DatePart.Day = true_at (date_has f d) date_parts 0 e
date_agrees f d e DatePart.Month = true_at (date_has f d) date_parts 1 e
date_agrees f d e DatePart.Ordinal = true_at (date_has f d) date_parts 2 e
date_agrees f d e DatePart.Weekday = true_at (date_has f d) date_parts 3 e
date_agrees f d e DatePart.IsoWeek = true_at (date_has f d) date_parts 4 e
date_agrees f d e DatePart.SundayWeek = true_at (date_has f d) date_parts 5 e
date_agrees f d e DatePart.MondayWeek = true_at (date_has f d) date_parts 6 e
date_agrees f d e DatePart.YearLastTwo = true_at (date_has f d) date_parts 7 e
date_agrees f d e DatePart.Century = true_at (date_has f d) date_parts 8 e
date_agrees f d e DatePart.Year = true_at (date_has f d) date_parts 9 e
date_agrees f d e DatePart.IsoYearLastTwo = true_at (date_has f d) date_parts 10 e
date_agrees f d e DatePart.IsoCentury = true_at (date_has f d) date_parts 11 e
date_agrees f d e DatePart.IsoYear = true_at (date_has f d) date_parts 12 e

abbrev pub dated : (y m n : ℕ) → IsDay y m n → Date
dated y m n h = record { years = y; month = m; day = n; exists = h }

same_numbers : (f : Fields) (y m n : ℕ) (a b : IsDay y m n) (p : DatePart)
    → date_has f (dated y m n a) p ≡ date_has f (dated y m n b) p
same_numbers f y m n a b DatePart.Day = refl
same_numbers f y m n a b DatePart.Month = refl
same_numbers f y m n a b DatePart.Ordinal = refl
same_numbers f y m n a b DatePart.Weekday = refl
same_numbers f y m n a b DatePart.IsoWeek = refl
same_numbers f y m n a b DatePart.SundayWeek = refl
same_numbers f y m n a b DatePart.MondayWeek = refl
same_numbers f y m n a b DatePart.YearLastTwo = refl
same_numbers f y m n a b DatePart.Century = refl
same_numbers f y m n a b DatePart.Year = refl
same_numbers f y m n a b DatePart.IsoYearLastTwo = refl
same_numbers f y m n a b DatePart.IsoCentury = refl
same_numbers f y m n a b DatePart.IsoYear = refl

-- what depends only on the numbers of a date is the same for equal dates
pub same_by : (g : Date → Bool)
    → ((y m n : ℕ) (a b : IsDay y m n) → g (dated y m n a) ≡ g (dated y m n b)) → (e d : Date)
    → IsSame e d → g e ≡ g d
same_by g numbers e d s =
    let day : (b : IsDay e.years e.month d.day) → g e ≡ g (dated e.years e.month d.day b) =
    subst (λ n. (b : IsDay e.years e.month n) → g e ≡ g (dated e.years e.month n b)) s.2
    (λ b. numbers e.years e.month e.day e.exists b) in
    let month : (b : IsDay e.years d.month d.day) → g e ≡ g (dated e.years d.month d.day b) =
    subst (λ m. (b : IsDay e.years m d.day) → g e ≡ g (dated e.years m d.day b)) s.1 day in
    let year : (b : IsDay d.years d.month d.day) → g e ≡ g (dated d.years d.month d.day b) =
    subst (λ y. (b : IsDay y d.month d.day) → g e ≡ g (dated y d.month d.day b)) s.0 month in
    year d.exists

pub same_parts : (f : Fields) (p : DatePart) (e d : Date) → IsSame e d → date_has f e p ≡ date_has f d p
same_parts f p e d s =
    same_by (λ (x : Date). date_has f x p) (λ y m n a b. same_numbers f y m n a b p) e d s

-- and so the first part that differs is the same
pub first_of_same : (f : Fields) (e d : Date) → IsSame e d
    → first_false (date_has f e) date_parts ≡ first_false (date_has f d) date_parts
first_of_same f e d s = λ i. first_false (λ p. same_parts f p e d s i) date_parts

-- if a part of the date differs, so does that part of each equal date
pub date_otherwise : (f : Fields) (e d : Date) (p : DatePart)
    → first_false (date_has f e) date_parts ≡ Some p → IsSame e d → date_has f d p ≡ false
date_otherwise f e d p off s = sym (same_parts f p e d s) ∙ some_false (date_has f e) date_parts p off

-- times

pub time_agrees : (f : Fields) (t : Time) → first_false (time_has f t) time_parts ≡ None → TimeAgrees f t
time_agrees f t e TimePart.Hour = true_at (time_has f t) time_parts 0 e
time_agrees f t e TimePart.Hour12 = true_at (time_has f t) time_parts 1 e
time_agrees f t e TimePart.Period = true_at (time_has f t) time_parts 2 e
time_agrees f t e TimePart.Minute = true_at (time_has f t) time_parts 3 e
time_agrees f t e TimePart.Second = true_at (time_has f t) time_parts 4 e
time_agrees f t e TimePart.Subsecond = true_at (time_has f t) time_parts 5 e

-- offsets

pub offset_agrees : (f : Fields) (o : UtcOffset) → first_false (offset_has f o) offset_parts ≡ None
    → OffsetAgrees f o
offset_agrees f o e OffsetPart.Hour = true_at (offset_has f o) offset_parts 0 e
offset_agrees f o e OffsetPart.Minute = true_at (offset_has f o) offset_parts 1 e
offset_agrees f o e OffsetPart.Second = true_at (offset_has f o) offset_parts 2 e
