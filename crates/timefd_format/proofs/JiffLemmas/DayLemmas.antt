-- The days before a date, counted from the year -1,000,000 and from the year -10,000.
use Rattle.std.proofs.Common.{ℕ, zero, suc, ◌≡◌, ◌∙◌, ◌+◌, ◌-◌, ◌%◌, Bool, true, false, cond, if◌then◌else◌, ℤ, pos, negsuc, ◌+ℤ◌, unsigned_abs, refl, sym, ap, arith}
use Rattle.jiff_core.specs.declared.civil.date.Date.{Date as JiffDate}
use Rattle.jiff_core.specs.Calendar.{IsYear, day_count, day_of_year, days_of_months as jiff_months, days_of_years as jiff_years}
use Rattle.jiff_core.specs.Date.{epoch_day, weekday_of}
use Rattle.jiff_core.proofs.CalendarLemmas.{days_from_civil-day_count, days_of_months-zero, days_of_months_more, weekday_number-parts}
use Rattle.jiff_core.proofs.MarchLemmas.{days_of_years-suc, leap_day}
use Rattle.jiff.proofs.SpanFacts.{signed_arith}
use Rattle.timefd_date_moment.specs.declared.date.Date.{Date}
use Rattle.timefd_date_moment.specs.Calendar.{counted, days_in_year, days_of_months, days_of_years, is_leap, ordinal}
use Rattle.timefd_date_moment.specs.Moments.{day_number, days_from_monday}
use Rattle.timefd_date_moment.proofs.CalendarLemmas.{days_before, days_next, months_next, months_none}
use Rattle.timefd_date_moment.proofs.LeapLemmas.{periods_apart}
use Rattle.timefd_format.specs.FromJiff.Same.{IsSameDate}
use Rattle.timefd_format.proofs.JiffLemmas.LeapLemmas.{counted_is, same_months}

in_year : (b : Bool) → (if b then 366 else 365) ≡ 365 + cond b 1 0
in_year true = refl
in_year false = refl

-- 990,000 years are 2475 periods
year_days : (n : ℕ) → days_in_year (n + 990000) ≡ 365 + leap_day (pos n)
year_days n =
    ap (λ b. if b then 366 else 365) (periods_apart (n + 990000) n 2475 (omega arith)) ∙ in_year (is_leap n)

no_years : jiff_years 0 ≡ 0
unfolding jiff_years
no_years = refl

years_apart : (n : ℕ) → days_of_years (n + 990000) ≡ jiff_years n + 361590075
years_apart zero = omega (arith, days_before 990000, no_years)
years_apart (suc n) =
    let at : suc n + 990000 ≡ suc (n + 990000) = omega arith in
    omega (
      arith,
      ap days_of_years at,
      days_next (n + 990000),
      year_days n,
      days_of_years-suc n,
      years_apart n,
    )

months_apart : (y : ℤ) (m : ℕ) → IsYear y → days_of_months (counted y) m ≡ jiff_months y m
months_apart y zero is = months_none (counted y) ∙ sym (days_of_months-zero y)
months_apart y (suc m) is =
    let back : suc m - 1 ≡ m = omega arith in
    omega (
      arith,
      months_next (counted y) m,
      days_of_months_more y (suc m) (omega arith),
      ap (jiff_months y) back,
      same_months y (suc m) is,
      months_apart y m is,
    )

count_is : (y : ℤ) (m d : ℕ)
    → day_count y m d ≡ jiff_years (unsigned_abs (y +ℤ pos 10000)) + (day_of_year y m d - 1)
unfolding day_count
count_is y m d = refl

shifted : (y : ℤ) → IsYear y → pos (unsigned_abs (y +ℤ pos 10000)) ≡ y +ℤ pos 10000
shifted (pos n) is = omega (arith, signed_arith)
shifted (negsuc n) is =
    let small : IsYear (negsuc n) = is in
    let e : negsuc n +ℤ pos 10000 ≡ pos (9999 - n) = omega (arith, signed_arith, small) in
    ap pos (ap unsigned_abs e) ∙ sym e

days_apart : (y : ℤ) (years m d : ℕ) → years ≡ counted y → IsYear y
    → days_of_years years + (ordinal years m d - 1) ≡ day_count y m d + 361590075
days_apart y years m d e is =
    let n : ℕ = unsigned_abs (y +ℤ pos 10000) in
    let at : years ≡ n + 990000 = omega (arith, signed_arith, is, e, counted_is y is, shifted y is) in
    let months : days_of_months years (m - 1) ≡ jiff_months y (m - 1) =
    ap (λ x. days_of_months x (m - 1)) e ∙ months_apart y (m - 1) is in
    omega (arith, ap days_of_years at, years_apart n, months, count_is y m d)

-- both day numbers of a date, and both weekdays
numbered : (j : JiffDate) (number : ℕ) → number ≡ day_count j.year j.month j.day + 361590075
    → (pos number ≡ epoch_day j +ℤ pos 365962028) × ((number + 5) % 7 ≡ weekday_of j)
numbered j number e = (
  omega (arith, signed_arith, e, days_from_civil-day_count j.year j.month j.day),
  omega (arith, e, days_from_civil-day_count j.year j.month j.day, weekday_number-parts (epoch_day j)),
)

pub same_days : (j : JiffDate) (d : Date) → IsSameDate j d
    → (pos (day_number d) ≡ epoch_day j +ℤ pos 365962028) × (days_from_monday d ≡ weekday_of j)
same_days j d is =
    let months : ordinal d.years d.month d.day ≡ ordinal d.years j.month j.day =
    (λ i. ordinal d.years (is.1 i) (is.2 i)) in
    numbered j (day_number d)
    (ap (λ o. days_of_years d.years + (o - 1)) months
    ∙ days_apart j.year d.years j.month j.day is.0 j.year_in)
