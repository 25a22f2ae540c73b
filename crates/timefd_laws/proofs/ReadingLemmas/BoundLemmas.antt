-- The greatest values of the parts of a moment.
use Rattle.std.proofs.Common.{ℕ, ◌≡◌, ◌+◌, ◌-◌, ◌*◌, ◌/◌, ◌≤◌, Bool, true, false, ◌||◌, ◌==◌, nat_le, nat_lt, if◌then◌else◌}
use Rattle.std.proofs.Common.{sym, refl, arith}
use Rattle.std.proofs.lemmas.Bool.{cond_both, leb-true, ltb-false}
use Rattle.timefd_date_moment.specs.declared.date.Date.{Date}
use Rattle.timefd_date_moment.specs.declared.unix_time.UnixTime.{UnixTime}
use Rattle.timefd_date_moment.specs.Instants.{is_within}
use Rattle.timefd_date_moment.specs.Calendar.{days_in_month, is_leap, days_in_year}
use Rattle.timefd_date_moment.specs.Moments.{date_ordinal, iso_week, thursday}
use Rattle.timefd_date_moment.proofs.CalendarLemmas.{months_fit}
use Rattle.timefd_date_format.proofs.TextLemmas.{lowest, highest}
use Rattle.timefd_date_moment.specs.Reading.Stamped.{whole_seconds}

month_bound : (a b c : Bool)
    → (if a then (if b then 29 else 28) else (if c then 30 else 31)) ≤ 31
month_bound true true c = omega arith
month_bound true false c = omega arith
month_bound false b true = omega arith
month_bound false b false = omega arith

pub in_month : (y m : ℕ) → days_in_month y m ≤ 31
in_month y m = month_bound (m == 2) (is_leap y) ((m == 4) || (m == 6) || (m == 9) || (m == 11))

year_bound : (b : Bool) → (365 ≤ (if b then 366 else 365)) × ((if b then 366 else 365) ≤ 366)
year_bound true = (omega arith, omega arith)
year_bound false = (omega arith, omega arith)

pub ordinal_first : (d : Date) → 1 ≤ date_ordinal d
ordinal_first d = omega (arith, d.exists)

pub ordinal_last : (d : Date) → date_ordinal d ≤ 366
ordinal_last d = months_fit d.years d.month d.day (d.exists.2) (d.exists.3) (d.exists.5)

pub iso_week_in : (d : Date) → (1 ≤ iso_week d) × (iso_week d ≤ 53)
iso_week_in d = by (nat_le (thursday d) 7) (nat_lt (days_in_year d.years + 7) (thursday d)) refl refl
  where
    by : (a b : Bool) → a ≡ nat_le (thursday d) 7 → b ≡ nat_lt (days_in_year d.years + 7) (thursday d)
        → (1 ≤ (if a then (thursday d + days_in_year (d.years - 1) - 8) / 7 + 1
        else (if b then 1 else (thursday d - 8) / 7 + 1)))
        × ((if a then (thursday d + days_in_year (d.years - 1) - 8) / 7 + 1
        else (if b then 1 else (thursday d - 8) / 7 + 1)) ≤ 53)
    by true b e f = (omega arith, omega (arith, leb-true _ _ (sym e), year_bound (is_leap (d.years - 1))))
    by false true e f = (omega arith, omega arith)
    by false false e f = (omega arith, omega (arith, ltb-false _ _ (sym f), year_bound (is_leap d.years)))

pub nanoseconds_in : (u : UnixTime) → is_within u ≡ true → u.nanoseconds ≤ 31619087596800 * 1000000000
nanoseconds_in u h = by u.is_negative refl
  where
    by : (b : Bool) → u.is_negative ≡ b → u.nanoseconds ≤ 31619087596800 * 1000000000
    by true e = lowest u h e
    by false e = omega (arith, highest u h e)

pub seconds_in : (u : UnixTime) → is_within u ≡ true → whole_seconds u ≤ 31619087596800
seconds_in u h =
    cond_both u.is_negative ((u.nanoseconds + 999999999) / 1000000000) (u.nanoseconds / 1000000000)
    (λ (n : ℕ). n ≤ 31619087596800) (λ e. omega (arith, nanoseconds_in u h)) (λ e. omega (arith, nanoseconds_in u h))
