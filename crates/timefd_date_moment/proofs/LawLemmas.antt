-- Laws of the calendar.
use Rattle.std.proofs.Common.{ℕ, zero, suc, ◌≡◌, ◌∙◌, ◌+◌, ◌-◌, ◌*◌, ◌/◌, ◌%◌, ◌<◌, ◌≤◌, ◌⊎◌, inl, inr, Bool, true, false, nat_le, nat_lt, refl, sym, ap, subst, arith}
use Rattle.std.proofs.lemmas.Bool.{cases_order, leb-true, leb-false, ltb-true, ltb-false}
use Rattle.timefd_date_moment.specs.declared.date.Date.{Date}
use Rattle.timefd_date_moment.specs.declared.time.Time.{Time}
use Rattle.timefd_date_moment.specs.declared.offset.UtcOffset.{UtcOffset}
use Rattle.timefd_date_moment.specs.Calendar.{days_in_month, days_in_year, days_of_months, days_of_years, ordinal}
use Rattle.timefd_date_moment.specs.Moments.{date_ordinal, day_number, days_from_monday, iso_years, iso_week, thursday, unix_start, unix_time, utc_nanoseconds}
use Rattle.timefd_date_moment.specs.Instants.{count}
use Rattle.timefd_date_moment.specs.Laws.{first_monday}
use Rattle.timefd_date_moment.proofs.CalendarLemmas as calendar

pub months_sum : (y : ℕ) → days_of_months y 12 ≡ days_in_year y
months_sum y = calendar.months_sum y

pub years_repeat : (y : ℕ) → days_of_years (y + 400) ≡ days_of_years y + 146097
years_repeat y = omega (arith, calendar.days_before y, calendar.days_before (y + 400))

january : (e : Date) → e.month ≡ 1 → e.day ≡ 1 → date_ordinal e ≡ 1
january e month day =
    let none : e.month - 1 ≡ 0 = omega (arith, month) in
    omega (arith, ap (days_of_months e.years) none, calendar.months_none e.years, day)

december : (d : Date) → d.month ≡ 12 → d.day ≡ 31 → date_ordinal d ≡ days_in_year d.years
december d month day =
    let eleven : d.month - 1 ≡ 11 = omega (arith, month) in
    omega (
      arith,
      ap (days_of_months d.years) eleven,
      calendar.months_next d.years 11,
      calendar.months_sum d.years,
      day,
    )

some_days : (y : ℕ) → 365 ≤ days_in_year y
some_days y = omega (arith, calendar.months_sum y, calendar.at_least y)

pub new_year : (d e : Date) → d.month ≡ 12 → d.day ≡ 31 → e.years ≡ d.years + 1 → e.month ≡ 1
    → e.day ≡ 1 → day_number e ≡ day_number d + 1
new_year d e month day next first one =
    let at : e.years ≡ suc d.years = omega (arith, next) in
    omega (
      arith,
      ap days_of_years at,
      calendar.days_next d.years,
      january e first one,
      december d month day,
      some_days d.years,
    )

within_year : (d : Date) → date_ordinal d ≤ days_in_year d.years
within_year d = calendar.in_year d.years d.month d.day d.exists.2 d.exists.3 d.exists.5

from_one : (d : Date) → 1 ≤ date_ordinal d
from_one d = omega (arith, d.exists.4)

-- a day of an earlier year comes before
earlier_year : (d e : Date) → d.years < e.years → day_number d < day_number e
earlier_year d e h =
    let until : e.years ≡ suc d.years + (e.years - suc d.years) = omega (arith, h) in
    omega (
      arith,
      within_year d,
      from_one d,
      from_one e,
      calendar.years_more d.years (e.years - suc d.years) e.years until,
    )

-- and so does a day of an earlier month of the same year
earlier_month : (y m n d e : ℕ) → 1 ≤ m → m < n → d ≤ days_in_month y m → 1 ≤ e
    → ordinal y m d < ordinal y n e
earlier_month y zero n d e a h k one = absurd (omega (arith, a))
earlier_month y (suc m) n d e a h k one =
    let until : n - 1 ≡ suc m + (n - 1 - suc m) = omega (arith, h) in
    let same : suc m - 1 ≡ m = omega arith in
    omega (
      arith,
      k,
      one,
      ap (days_of_months y) same,
      calendar.months_next y m,
      calendar.months_more y (suc m) (n - 1 - suc m) (n - 1) until,
    )

same_years : (d e : Date) → day_number d ≡ day_number e → d.years ≡ e.years
same_years d e h = by (cases_order d.years e.years)
  where
    by : (d.years ≡ e.years) ⊎ ((d.years < e.years) ⊎ (e.years < d.years)) → d.years ≡ e.years
    by (inl same) = same
    by (inr (inl before)) = absurd (omega (arith, h, earlier_year d e before))
    by (inr (inr after)) = absurd (omega (arith, h, earlier_year e d after))

same_month : (y m n d e : ℕ) → 1 ≤ m → 1 ≤ n → d ≤ days_in_month y m → e ≤ days_in_month y n
    → 1 ≤ d → 1 ≤ e → ordinal y m d ≡ ordinal y n e → m ≡ n
same_month y m n d e a b k l one two h = by (cases_order m n)
  where
    by : (m ≡ n) ⊎ ((m < n) ⊎ (n < m)) → m ≡ n
    by (inl same) = same
    by (inr (inl before)) = absurd (omega (arith, h, earlier_month y m n d e a before k two))
    by (inr (inr after)) = absurd (omega (arith, h, earlier_month y n m e d b after l one))

pub one_date : (d e : Date) → day_number d ≡ day_number e
    → (d.years ≡ e.years) × (d.month ≡ e.month) × (d.day ≡ e.day)
one_date d e h =
    let years : d.years ≡ e.years = same_years d e h in
    let before : days_of_years d.years ≡ days_of_years e.years = ap days_of_years years in
    let day_of_year : date_ordinal d ≡ date_ordinal e = omega (arith, h, before, from_one d, from_one e) in
    let moved : ordinal e.years e.month e.day ≡ ordinal d.years e.month e.day =
    ap (λ y. ordinal y e.month e.day) (sym years) in
    let fits : e.day ≤ days_in_month d.years e.month =
    subst (λ y. e.day ≤ days_in_month y e.month) (sym years) e.exists.5 in
    let month : d.month ≡ e.month =
    same_month d.years d.month e.month d.day e.day d.exists.2 e.exists.2 d.exists.5 fits d.exists.4
    e.exists.4 (day_of_year ∙ moved) in
    let months : days_of_months d.years (d.month - 1) ≡ days_of_months e.years (e.month - 1) =
    (λ i. days_of_months (years i) (month i - 1)) in
    (years, month, omega (arith, day_of_year, months))

-- About a day with ordinal `o`, in a year that begins on day `s` and has `l` days, `w` days after a
-- Monday: it is in the last week of the year before, in the first one of the next, or in a week of its
-- own year.
week_before : (s b k o w : ℕ) → s ≡ b + k → w ≡ (s + (o - 1) + 5) % 7 → 1 ≤ o → o + 10 - w ≤ 7 → 365 ≤ k
    → (s + (o - 1) + 7 ≡ (b + 3 - (b + 3 + 5) % 7) + 7 * ((o + 10 - w + k - 8) / 7 + 1) + w)
    × (1 ≤ (o + 10 - w + k - 8) / 7 + 1) × (s + (o - 1) < s + 3 - (s + 3 + 5) % 7)
week_before s b k o w e d one h long =
    (omega (arith, e, d, one, h, long), omega arith, omega (arith, e, d, one, h, long))

week_after : (s l o w : ℕ) → w ≡ (s + (o - 1) + 5) % 7 → 1 ≤ o → o ≤ l → l + 7 < o + 10 - w
    → (s + (o - 1) + 7 ≡ (s + l + 3 - (s + l + 3 + 5) % 7) + 7 * 1 + w)
week_after s l o w d one last h = omega (arith, d, one, last, h)

week_within : (s l o w : ℕ) → w ≡ (s + (o - 1) + 5) % 7 → 1 ≤ o → 7 < o + 10 - w → o + 10 - w ≤ l + 7
    → (s + (o - 1) + 7 ≡ (s + 3 - (s + 3 + 5) % 7) + 7 * ((o + 10 - w - 8) / 7 + 1) + w)
    × (s + (o - 1) < s + l + 3 - (s + l + 3 + 5) % 7)
week_within s l o w d one h k = (omega (arith, d, one, h, k), omega (arith, d, one, h, k))

abbrev Counted : Date → ℕ → ℕ → Type 0
Counted d year week = (day_number d + 7 ≡ first_monday year + 7 * week + days_from_monday d)
    × (1 ≤ week) × (day_number d < first_monday (year + 1))

at_week : (d : Date) (year week : ℕ) → iso_years d ≡ year → iso_week d ≡ week → Counted d year week
    → Counted d (iso_years d) (iso_week d)
at_week d year week y w h =
    subst (λ n. Counted d n (iso_week d)) (sym y) (subst (λ n. Counted d year n) (sym w) h)

begins : (year next : ℕ) → next ≡ suc year
    → days_of_years next ≡ days_of_years year + days_in_year year
begins year next e = ap days_of_years e ∙ calendar.days_next year

last_week : (d : Date) → thursday d ≤ 7
    → Counted d (d.years - 1) ((thursday d + days_in_year (d.years - 1) - 8) / 7 + 1)
last_week d h =
    let next : d.years ≡ suc (d.years - 1) = omega (arith, d.exists.0) in
    let same : d.years - 1 + 1 ≡ d.years = omega (arith, d.exists.0) in
    let w = week_before (days_of_years d.years) (days_of_years (d.years - 1)) (days_in_year (d.years - 1))
    (date_ordinal d) (days_from_monday d) (begins (d.years - 1) d.years next) refl (from_one d) h
    (some_days (d.years - 1)) in
    (w.0, w.1, subst (λ n. day_number d < first_monday n) (sym same) w.2)

next_week : (d : Date) → days_in_year d.years + 7 < thursday d → Counted d (d.years + 1) 1
next_week d h =
    let next : d.years + 1 ≡ suc d.years = omega arith in
    let after : d.years + 1 + 1 ≡ suc (d.years + 1) = omega arith in
    let w = week_after (days_of_years d.years) (days_in_year d.years) (date_ordinal d) (days_from_monday d)
    refl (from_one d) (within_year d) h in
    let one = begins d.years (d.years + 1) next in
    let two = begins (d.years + 1) (d.years + 1 + 1) after in (
      omega (arith, w, one),
      omega arith,
      omega (arith, one, two, within_year d, from_one d, some_days (d.years + 1)),
    )

own_week : (d : Date) → 7 < thursday d → thursday d ≤ days_in_year d.years + 7
    → Counted d d.years ((thursday d - 8) / 7 + 1)
own_week d h k =
    let next : d.years + 1 ≡ suc d.years = omega arith in
    let w = week_within (days_of_years d.years) (days_in_year d.years) (date_ordinal d) (days_from_monday d)
    refl (from_one d) h k in
    let one = begins d.years (d.years + 1) next in
    (w.0, omega arith, omega (arith, w.1, one))

pub iso_weeks_counted : (d : Date) → Counted d (iso_years d) (iso_week d)
iso_weeks_counted d = by (nat_le (thursday d) 7) (nat_lt (days_in_year d.years + 7) (thursday d)) refl refl
  where
    by : (t u : Bool) → t ≡ nat_le (thursday d) 7 → u ≡ nat_lt (days_in_year d.years + 7) (thursday d)
        → Counted d (iso_years d) (iso_week d)
    by true u e f = at_week d _ _
        (rw (sym e) refl)
        (rw (sym e) refl)
        (last_week d (leb-true _ _ (sym e)))
    by false true e f = at_week d _ _
        (rw (sym e, sym f) refl)
        (rw (sym e, sym f) refl)
        (next_week d (ltb-true _ _ (sym f)))
    by false false e f = at_week d _ _
        (rw (sym e, sym f) refl)
        (rw (sym e, sym f) refl)
        (own_week d (leb-false _ _ (sym e)) (ltb-false _ _ (sym f)))

pub instant_kept : (d : Date) (t : Time) (o : UtcOffset)
    → count (unix_time d t o) ≡ utc_nanoseconds d t o
instant_kept d t o = by (nat_lt (utc_nanoseconds d t o) (unix_start * 1000000000)) refl
  where
    by : (b : Bool) → b ≡ nat_lt (utc_nanoseconds d t o) (unix_start * 1000000000)
        → count (unix_time d t o) ≡ utc_nanoseconds d t o
    by true e = rw (sym e) (omega (arith, ltb-true _ _ (sym e)))
    by false e = rw (sym e) (omega (arith, ltb-false _ _ (sym e)))
