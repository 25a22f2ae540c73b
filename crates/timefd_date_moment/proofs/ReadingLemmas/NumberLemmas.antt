-- The moment of numbers that were read without fields.
use Rattle.std.proofs.Common.{ℕ, ◌≡◌, ◌≢◌, ◌∙◌, ◌⊎◌, inl, inr, ◌+◌, ◌-◌, ◌==◌, ◌&&◌, ◌||◌, if◌then◌else◌, Bool, true, false, Option, Some, None, Ok, refl, sym, ap, arith}
use Rattle.std.proofs.Math.Dec.{eqb}
use Rattle.std.proofs.lemmas.Bool.{le-ltb}
use Rattle.std.proofs.lemmas.Bool.Decides.{eqb_tells}
use Rattle.timefd_date_moment.specs.declared.fields.short.Numbers.{Numbers}
use Rattle.timefd_date_moment.specs.Fields.Readings.{same}
use Rattle.timefd_date_moment.specs.Fields.Short.{fields_with}
use Rattle.timefd_date_moment.specs.declared.date.Date.{Date}
use Rattle.timefd_date_moment.specs.declared.time.Time.{Time}
use Rattle.timefd_date_moment.specs.Moments.{is_before_zero, magnitude}
use Rattle.timefd_date_moment.specs.declared.reading.part.DatePart.{DatePart}
use Rattle.timefd_date_moment.specs.declared.reading.part.TimePart.{TimePart}
use Rattle.timefd_date_moment.specs.Reading.Shown.{DateAgrees, TimeAgrees, is_count_or_zero, is_year}
use Rattle.timefd_date_moment.specs.Reading.Times.{number}
use Rattle.timefd_date_moment.specs.Reading.Values.{IsDateIn, IsMomentOf, IsTimeIn}

same_number : (a b : ℕ) → a ≡ b → (a == b) ≡ true
same_number a b e = by (eqb_tells a b)
  where
    by : ((eqb a b ≡ true) × (a ≡ b)) ⊎ ((eqb a b ≡ false) × (a ≢ b)) → (a == b) ≡ true
    by (inl x) = x.0
    by (inr x) = absurd (x.1 e)

same_some : (a b : ℕ) → Some a ≡ Some b → a ≡ b
same_some a b e = cc

-- a year from 0 on
year_shown : (y years : ℕ) → years ≡ y + 1000000
    → is_year (Some (record { is_negative = false; magnitude = y })) years ≡ true
year_shown y years e = by (magnitude years) (is_before_zero years) far front
  where
    front : is_before_zero years ≡ false
    front = le-ltb years 1000000 (omega (arith, e))

    far : y ≡ magnitude years
    far =
        let whole : y ≡ years - 1000000 = omega (arith, e) in
        whole ∙ sym (ap (λ b. if b then 1000000 - years else years - 1000000) front)

    both : (a c : Bool) → a ≡ true → (a && (c || true)) ≡ true
    both true true is = refl
    both true false is = refl
    both false c is = absurd cc

    by : (m : ℕ) (b : Bool) → y ≡ m → b ≡ false → ((y == m) && ((m == 0) || same false b)) ≡ true
    by m true is not = absurd cc
    by m false is not = both (y == m) (m == 0) (same_number y m is)

date_agrees : (y m k : ℕ) (h i s : Option ℕ) (d : Date) → d.years ≡ y + 1000000 → d.month ≡ m → d.day ≡ k
    → DateAgrees (fields_with (record {
      year = Some y;
      month = Some m;
      day = Some k;
      hour = h;
      minute = i;
      second = s;
    })) d
date_agrees y m k h i s d a b c DatePart.Day = same_number k d.day (sym c)
date_agrees y m k h i s d a b c DatePart.Month = same_number m d.month (sym b)
date_agrees y m k h i s d a b c DatePart.Ordinal = refl
date_agrees y m k h i s d a b c DatePart.Weekday = refl
date_agrees y m k h i s d a b c DatePart.IsoWeek = refl
date_agrees y m k h i s d a b c DatePart.SundayWeek = refl
date_agrees y m k h i s d a b c DatePart.MondayWeek = refl
date_agrees y m k h i s d a b c DatePart.YearLastTwo = refl
date_agrees y m k h i s d a b c DatePart.Century = refl
date_agrees y m k h i s d a b c DatePart.Year = year_shown y d.years a
date_agrees y m k h i s d a b c DatePart.IsoYearLastTwo = refl
date_agrees y m k h i s d a b c DatePart.IsoCentury = refl
date_agrees y m k h i s d a b c DatePart.IsoYear = refl

date_by : (yo mo ko h i s : Option ℕ) (y m k : ℕ) (d : Date) → yo ≡ Some y → mo ≡ Some m → ko ≡ Some k
    → d.years ≡ y + 1000000 → d.month ≡ m → d.day ≡ k
    → IsDateIn (fields_with (record { year = yo; month = mo; day = ko; hour = h; minute = i; second = s }))
    (Ok (Some d))
date_by None mo ko h i s y m k d e f g a b c = absurd cc
date_by (Some x) None ko h i s y m k d e f g a b c = absurd cc
date_by (Some x) (Some n) None h i s y m k d e f g a b c = absurd cc
date_by (Some x) (Some n) (Some l) h i s y m k d e f g a b c = (
  date_agrees x n l h i s d (a ∙ ap (λ z. z + 1000000) (sym (same_some x y e))) (b ∙ sym (same_some n m f))
      (c ∙ sym (same_some l k g)),
  tt,
)

pub date_known : (n : Numbers) (y m k : ℕ) (d : Date) → n.year ≡ Some y → n.month ≡ Some m → n.day ≡ Some k
    → d.years ≡ y + 1000000 → d.month ≡ m → d.day ≡ k → IsDateIn (fields_with n) (Ok (Some d))
date_known n y m k d e f g a b c = date_by n.year n.month n.day n.hour n.minute n.second y m k d e f g a b c

pub no_date : (n : Numbers) → n.year ≡ None → n.month ≡ None → n.day ≡ None → IsDateIn (fields_with n) (Ok None)
no_date n e f g = by n.year n.month n.day n.hour n.minute n.second e f g
  where
    by : (y m k h i s : Option ℕ) → y ≡ None → m ≡ None → k ≡ None
        → IsDateIn (fields_with (record { year = y; month = m; day = k; hour = h; minute = i; second = s }))
        (Ok None)
    by (Some x) m k h i s e f g = absurd cc
    by None (Some x) k h i s e f g = absurd cc
    by None None (Some x) h i s e f g = absurd cc
    by None None None h i s e f g = tt

-- times

second_shown : (s : Option ℕ) (n : ℕ) → n ≡ number s → is_count_or_zero s n ≡ true
second_shown None n e = same_number n 0 e
second_shown (Some k) n e = same_number k n (sym e)

time_agrees : (y m k s : Option ℕ) (h i : ℕ) (t : Time) → t.hour ≡ h → t.minute ≡ i → t.second ≡ number s
    → t.nanosecond ≡ 0 → TimeAgrees (fields_with (record {
      year = y;
      month = m;
      day = k;
      hour = Some h;
      minute = Some i;
      second = s;
    })) t
time_agrees y m k s h i t a b c e TimePart.Hour = same_number h t.hour (sym a)
time_agrees y m k s h i t a b c e TimePart.Hour12 = refl
time_agrees y m k s h i t a b c e TimePart.Period = refl
time_agrees y m k s h i t a b c e TimePart.Minute = same_number i t.minute (sym b)
time_agrees y m k s h i t a b c e TimePart.Second = second_shown s t.second c
time_agrees y m k s h i t a b c e TimePart.Subsecond = same_number t.nanosecond 0 e

time_by : (y m k ho io s : Option ℕ) (h i : ℕ) (t : Time) → ho ≡ Some h → io ≡ Some i → t.hour ≡ h → t.minute ≡ i
    → t.second ≡ number s → t.nanosecond ≡ 0
    → IsTimeIn (fields_with (record { year = y; month = m; day = k; hour = ho; minute = io; second = s }))
    (Ok (Some t))
time_by y m k None io s h i t e f a b c d = absurd cc
time_by y m k (Some x) None s h i t e f a b c d = absurd cc
time_by y m k (Some x) (Some z) None h i t e f a b c d = (
  time_agrees y m k None x z t (a ∙ sym (same_some x h e)) (b ∙ sym (same_some z i f)) c d,
  tt,
)
time_by y m k (Some x) (Some z) (Some s) h i t e f a b c d = (
  time_agrees y m k (Some s) x z t (a ∙ sym (same_some x h e)) (b ∙ sym (same_some z i f)) c d,
  tt,
)

pub time_known : (n : Numbers) (h i : ℕ) (t : Time) → n.hour ≡ Some h → n.minute ≡ Some i → t.hour ≡ h
    → t.minute ≡ i → t.second ≡ number n.second → t.nanosecond ≡ 0 → IsTimeIn (fields_with n) (Ok (Some t))
time_known n h i t e f a b c d = time_by n.year n.month n.day n.hour n.minute n.second h i t e f a b c d

pub no_time : (n : Numbers) → n.hour ≡ None → n.minute ≡ None → n.second ≡ None → IsTimeIn (fields_with n) (Ok None)
no_time n e f g = by n.year n.month n.day n.hour n.minute n.second e f g
  where
    by : (y m k h i s : Option ℕ) → h ≡ None → i ≡ None → s ≡ None
        → IsTimeIn (fields_with (record { year = y; month = m; day = k; hour = h; minute = i; second = s }))
        (Ok None)
    by y m k (Some x) i s e f g = absurd cc
    by y m k None (Some x) s e f g = absurd cc
    by y m k None None (Some x) e f g = absurd cc
    by y m k None None None e f g = tt

pub both_known : (n : Numbers) (date : Option Date) (time : Option Time) → IsDateIn (fields_with n) (Ok date)
    → IsTimeIn (fields_with n) (Ok time)
    → IsMomentOf (fields_with n) (Ok (record { date = date; time = time; offset = None }))
both_known n date time d t = (d, t, tt)
