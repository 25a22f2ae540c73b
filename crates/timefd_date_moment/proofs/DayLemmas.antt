-- The lengths of months, and how days follow each other.
use Rattle.std.proofs.Common.{ℕ, zero, suc, ◌≡◌, ◌≢◌, ◌∙◌, ◌+◌, ◌-◌, ◌*◌, ◌%◌, ◌≤◌, ◌==◌, ◌||◌, Bool, true, false, if◌then◌else◌, nat_lt, refl, sym, ap, arith}
use Rattle.std.proofs.lemmas.Bool.{ltb-true}
use Rattle.timefd_date_moment.specs.declared.date.Date.{Date}
use Rattle.timefd_date_moment.specs.declared.time.Time.{Time}
use Rattle.timefd_date_moment.specs.declared.offset.UtcOffset.{UtcOffset}
use Rattle.timefd_date_moment.specs.Calendar.{days_in_month, days_of_months, days_of_years}
use Rattle.timefd_date_moment.specs.Moments.{date_ordinal, day_number, day_second, days_from_monday, unix_start, unix_time, utc_nanoseconds}
use Rattle.timefd_date_moment.specs.Laws.{february}
use Rattle.timefd_date_moment.proofs.CalendarLemmas.{days_before, months_next, months_none}
use Rattle.timefd_date_moment.proofs.LeapLemmas.{leap_of, none_left, periods_apart, some_left}

abbrev days : Bool → Bool → Bool → ℕ
days a b c = if leap_of a b c then 29 else 28

-- not a multiple of 4
common : (y : ℕ) → (y + 1000000) % 4 ≢ 0 → february y ≡ 28
common y h = λ i. days (some_left ((y + 1000000) % 4) h i) ((y + 1000000) % 100 == 0) ((y + 1000000) % 400 == 0)

fourth : (y : ℕ) → (y + 1000000) % 4 ≡ 0 → (y + 1000000) % 100 ≢ 0 → february y ≡ 29
fourth y h k = λ i. days (none_left ((y + 1000000) % 4) h i) (some_left ((y + 1000000) % 100) k i) ((y + 1000000) % 400 == 0)

century : (y : ℕ) → (y + 1000000) % 4 ≡ 0 → (y + 1000000) % 100 ≡ 0 → (y + 1000000) % 400 ≢ 0
    → february y ≡ 28
century y h k l = λ i. days (none_left ((y + 1000000) % 4) h i) (none_left ((y + 1000000) % 100) k i)
    (some_left ((y + 1000000) % 400) l i)

period : (y : ℕ) → (y + 1000000) % 4 ≡ 0 → (y + 1000000) % 100 ≡ 0 → (y + 1000000) % 400 ≡ 0
    → february y ≡ 29
period y h k l = λ i. days (none_left ((y + 1000000) % 4) h i) (none_left ((y + 1000000) % 100) k i)
    (none_left ((y + 1000000) % 400) l i)

pub leap_years : (y : ℕ) →
    (¬ (y % 4 ≡ 0) → february y ≡ 28)
    × (y % 4 ≡ 0 → ¬ (y % 100 ≡ 0) → february y ≡ 29)
    × (y % 100 ≡ 0 → ¬ (y % 400 ≡ 0) → february y ≡ 28)
    × (y % 400 ≡ 0 → february y ≡ 29)
leap_years y = (
  λ h. common y (λ e. h (omega (arith, e))),
  λ h k. fourth y (omega (arith, h)) (λ e. k (omega (arith, e))),
  λ h k. century y (omega (arith, h)) (omega (arith, h)) (λ e. k (omega (arith, e))),
  λ h. period y (omega (arith, h)) (omega (arith, h)) (omega (arith, h)),
)

pub months_repeat : (y m : ℕ) → days_in_month (y + 400) m ≡ days_in_month y m
months_repeat y m =
    ap (λ b. if m == 2 then (if b then 29 else 28) else (if (m == 4) || (m == 6) || (m == 9) || (m == 11) then 30 else 31))
    (periods_apart (y + 400) y 1 (omega arith))

pub next_day : (d e : Date) → e.years ≡ d.years → e.month ≡ d.month → e.day ≡ d.day + 1
    → day_number e ≡ day_number d + 1
next_day d e years month day =
    let months : days_of_months e.years (e.month - 1) ≡ days_of_months d.years (d.month - 1) =
    (λ i. days_of_months (years i) (month i - 1)) in
    omega (arith, months, ap days_of_years years, day, d.exists.4)

-- the days of the months before the next month
through : (y m : ℕ) → 1 ≤ m → days_of_months y (m + 1 - 1) ≡ days_of_months y (m - 1) + days_in_month y m
through y zero h = absurd (omega (arith, h))
through y (suc m) h =
    let here : suc m - 1 ≡ m = omega arith in
    let next : suc m + 1 - 1 ≡ suc m = omega arith in
    omega (arith, ap (days_of_months y) here, ap (days_of_months y) next, months_next y m)

pub next_month : (d e : Date) → d.day ≡ days_in_month d.years d.month → e.years ≡ d.years
    → e.month ≡ d.month + 1 → e.day ≡ 1 → day_number e ≡ day_number d + 1
next_month d e last years month day =
    let months : days_of_months e.years (e.month - 1) ≡ days_of_months d.years (d.month + 1 - 1) =
    (λ i. days_of_months (years i) (month i - 1)) in
    omega (
      arith,
      months,
      through d.years d.month d.exists.2,
      ap days_of_years years,
      last,
      day,
      d.exists.4,
    )

pub weekdays_follow : (d e : Date) → day_number e ≡ day_number d + 1
    → days_from_monday e ≡ (days_from_monday d + 1) % 7
weekdays_follow d e h = omega (arith, h)

epoch_day : (d : Date) → d.years ≡ 1970 + 1000000 → d.month ≡ 1 → d.day ≡ 1 → day_number d ≡ 365962028
epoch_day d years month day =
    let none : d.month - 1 ≡ 0 = omega (arith, month) in
    omega (
      arith,
      ap days_of_years years,
      days_before 1001970,
      ap (days_of_months d.years) none,
      months_none d.years,
      day,
    )

epoch : (d : Date) (t : Time) (o : UtcOffset) → day_number d ≡ 365962028 → day_second t ≡ 0
    → t.nanosecond ≡ 0 → o.seconds ≡ 0 → utc_nanoseconds d t o ≡ unix_start * 1000000000
epoch d t o day second fraction offset = elim o.is_negative as (λ b.
    (if b then day_number d * 86400 + day_second t + 100000 + o.seconds else day_number d * 86400 + day_second t + 100000 - o.seconds)
    * 1000000000 + t.nanosecond
    ≡ unix_start * 1000000000) [
      | true ↦ omega (arith, day, second, fraction, offset)
      | false ↦ omega (arith, day, second, fraction, offset)
    ]

start : (d : Date) (t : Time) (o : UtcOffset) → utc_nanoseconds d t o ≡ unix_start * 1000000000
    → (unix_time d t o).nanoseconds ≡ 0
start d t o h = by (nat_lt (utc_nanoseconds d t o) (unix_start * 1000000000)) refl
  where
    by : (b : Bool) → b ≡ nat_lt (utc_nanoseconds d t o) (unix_start * 1000000000)
        → (unix_time d t o).nanoseconds ≡ 0
    by true e = rw (sym e) (omega (arith, h))
    by false e = rw (sym e) (omega (arith, h))

pub unix_epoch : (d : Date) (t : Time) (o : UtcOffset) → d.years ≡ 1970 + 1000000 → d.month ≡ 1
    → d.day ≡ 1 → day_second t ≡ 0 → t.nanosecond ≡ 0 → o.seconds ≡ 0
    → (days_from_monday d ≡ 3) × ((unix_time d t o).nanoseconds ≡ 0)
unix_epoch d t o years month day second fraction offset =
    let number = epoch_day d years month day in
    (omega (arith, number), start d t o (epoch d t o number second fraction offset))
