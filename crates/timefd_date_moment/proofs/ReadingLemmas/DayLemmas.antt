-- The date of a day, and the day of a date.
use Rattle.std.proofs.Common.{ℕ, ◌≡◌, ◌∙◌, ◌+◌, ◌-◌, ◌*◌, ◌/◌, ◌%◌, ◌≤◌, Bool, true, false, nat_lt, Option, Some, None, if◌then◌else◌, refl, sym, ap, arith}
use Rattle.std.proofs.lemmas.Bool.{le-leb, lt-ltb, ltb-true, ltb-false}
use Rattle.timefd_date_moment.specs.declared.date.Date.{Date}
use Rattle.timefd_date_moment.specs.declared.time.Time.{Time}
use Rattle.timefd_date_moment.specs.declared.offset.UtcOffset.{UtcOffset}
use Rattle.timefd_date_moment.specs.Calendar.{days_of_years}
use Rattle.timefd_date_moment.specs.Instants.{all_at, count, is_within}
use Rattle.timefd_date_moment.specs.Moments.{date_ordinal, day_number, day_second, days_from_monday, days_from_sunday, iso_week, iso_years, monday_week, sunday_week}
use Rattle.timefd_date_moment.proofs.CalendarLemmas as calendar
use Rattle.timefd_date_moment.proofs.LawLemmas as law
use Rattle.timefd_date_moment.specs.Reading.Dates.{Selects}
use Rattle.timefd_date_moment.specs.Reading.Days.{iso_week_day, midnight, monday_week_day, ordinal_day, sunday_week_day}

from_one : (d : Date) → 1 ≤ date_ordinal d
from_one d = omega (arith, d.exists.4)

-- the days of the years -999,999 to 999,999
pub within : (d : Date) → (366 ≤ day_number d) × (day_number d ≤ 730484999)
within d =
    let begins = calendar.years_more 0 (d.years - 1) d.years (omega (arith, d.exists.0)) in
    let ends = calendar.years_more d.years (1999999 - d.years) 2000000 (omega (arith, d.exists.1)) in
    let position = calendar.in_year d.years d.month d.day d.exists.2 d.exists.3 d.exists.5 in (
      omega (arith, begins, from_one d),
      omega (arith, ends, position, from_one d, calendar.days_before 2000000),
    )

pub counted : (n : ℕ) → count (midnight n) ≡ (n * 86400 + 100000) * 1000000000
counted n = by (nat_lt n 365962028) refl
  where
    by : (t : Bool) → t ≡ nat_lt n 365962028 → count (midnight n) ≡ (n * 86400 + 100000) * 1000000000
    by true e = rw (sym e) (omega (arith, ltb-true _ _ (sym e)))
    by false e = rw (sym e) (omega (arith, ltb-false _ _ (sym e)))

pub inside : (n : ℕ) → 366 ≤ n → n ≤ 730484999 → is_within (midnight n) ≡ true
inside n h k = by (nat_lt n 365962028) refl
  where
    by : (t : Bool) → t ≡ nat_lt n 365962028 → is_within (midnight n) ≡ true
    by true e = rw (sym e) (le-leb _ _ (omega (arith, h)))
    by false e = rw (sym e) (lt-ltb _ _ (omega (arith, k)))

-- a clock in UTC shows the day itself
day_at : (b : Bool) (n day second nano off : ℕ) → off ≡ 0 → second ≤ 86399 → nano ≤ 999999999
    → (if b then day * 86400 + second + 100000 + off else day * 86400 + second + 100000 - off) * 1000000000 + nano
    ≡ (n * 86400 + 100000) * 1000000000 → day ≡ n
day_at true n day second nano off z s k e = omega (arith, z, s, k, e)
day_at false n day second nano off z s k e = omega (arith, z, s, k, e)

day_of : (n : ℕ) (d : Date) (t : Time) (o : UtcOffset) → all_at (Some d) (Some t) (Some o) (midnight n)
    → day_number d ≡ n
day_of n d t o h =
    day_at o.is_negative n (day_number d) (day_second t) t.nanosecond o.seconds h.1
    (omega (arith, t.hours, t.minutes, t.seconds)) t.nanoseconds (h.0 ∙ counted n)

-- the date that a clock in UTC shows is that of the day
pub found : (n : ℕ) (date : Option Date) (time : Option Time) (offset : Option UtcOffset)
    → all_at date time offset (midnight n) → Selects (λ d. day_number d ≡ n) date
found n None time offset h = absurd h
found n (Some d) None offset h = absurd h
found n (Some d) (Some t) None h = absurd h
found n (Some d) (Some t) (Some o) h = λ e same. law.one_date d e (day_of n d t o h ∙ sym same)

clash : (b : Bool) → b ≡ false → b ≡ true → ⊥
clash true e g = absurd cc
clash false e g = absurd cc

-- a day that no clock shows has no date
pub unfound : (n : ℕ) → is_within (midnight n) ≡ false → Selects (λ d. day_number d ≡ n) None
unfound n out = λ d same.
    let bounds = within d in
    clash (is_within (midnight n)) out
    (inside n (omega (arith, bounds.0, same)) (omega (arith, bounds.1, same)))

-- The day that the fields of a way determine.

pub ordinal : (y n : ℕ) (d : Date) → y ≡ d.years → n ≡ date_ordinal d
    → day_number d ≡ ordinal_day y n
ordinal y n d years position =
    let first : days_of_years y ≡ days_of_years d.years = ap days_of_years years in
    omega (arith, first, position, from_one d)

pub iso : (y w n : ℕ) (d : Date) → y ≡ iso_years d → w ≡ iso_week d → n ≡ days_from_monday d
    → day_number d ≡ iso_week_day y w n
iso y w n d years week weekday =
    let same : iso_week_day y w n ≡ iso_week_day (iso_years d) (iso_week d) (days_from_monday d) =
    (λ i. iso_week_day (years i) (week i) (weekday i)) in
    (omega (arith, (law.iso_weeks_counted d).0)) ∙ sym same

sunday_at : (s o p w : ℕ) → 1 ≤ o → p ≡ ((s + (o - 1) + 5) % 7 + 1) % 7 → w ≡ (o + 6 - p) / 7
    → s + (o - 1) ≡ s + 6 - (s + 5) % 7 + 7 * w + p - 7
sunday_at s o p w one past week = omega (arith, one, past, week)

pub sunday : (y w n : ℕ) (d : Date) → y ≡ d.years → w ≡ sunday_week d → n ≡ days_from_monday d
    → day_number d ≡ sunday_week_day y w n
sunday y w n d years week weekday =
    let same : sunday_week_day y w n ≡ sunday_week_day d.years (sunday_week d) (days_from_monday d) =
    (λ i. sunday_week_day (years i) (week i) (weekday i)) in
    sunday_at (days_of_years d.years) (date_ordinal d) (days_from_sunday d) (sunday_week d) (from_one d) refl
    refl ∙ sym same

monday_at : (s o p w : ℕ) → 1 ≤ o → p ≡ (s + (o - 1) + 5) % 7 → w ≡ (o + 6 - p) / 7
    → s + (o - 1) ≡ s + (7 - (s + 5) % 7) % 7 + 7 * w + p - 7
monday_at s o p w one past week = omega (arith, one, past, week)

pub monday : (y w n : ℕ) (d : Date) → y ≡ d.years → w ≡ monday_week d → n ≡ days_from_monday d
    → day_number d ≡ monday_week_day y w n
monday y w n d years week weekday =
    let same : monday_week_day y w n ≡ monday_week_day d.years (monday_week d) (days_from_monday d) =
    (λ i. monday_week_day (years i) (week i) (weekday i)) in
    monday_at (days_of_years d.years) (date_ordinal d) (days_from_monday d) (monday_week d) (from_one d) refl
    refl ∙ sym same
