-- The days before a year, and before a month.
use Rattle.std.proofs.Common.{ℕ, zero, suc, ◌≡◌, ◌∙◌, ◌+◌, ◌-◌, ◌*◌, ◌/◌, ◌<◌, ◌≤◌, ◌⊎◌, inl, inr, true, false, refl, ap, arith, if◌then◌else◌}
use Rattle.std.proofs.lemmas.Bool.{cases_order}
use Rattle.timefd_date_moment.specs.Calendar.{days_of_years, days_of_months, days_in_month, days_in_year, is_leap}

-- the closed form that the code uses
pub days_before : (y : ℕ) → 365 * y + (y + 3) / 4 + (y + 399) / 400 - (y + 99) / 100 ≡ days_of_years y
unfolding days_of_years
days_before zero = refl
days_before (suc y) = grind (arith, days_before y)

pub days_next : (y : ℕ) → days_of_years (suc y) ≡ days_of_years y + days_in_year y
unfolding days_of_years
days_next y = refl

-- a later year begins after the last day of an earlier one
pub years_more : (y j z : ℕ) → z ≡ suc y + j → days_of_years y + days_in_year y ≤ days_of_years z
years_more y zero z e =
    let at : z ≡ suc y = omega (arith, e) in
    omega (arith, ap days_of_years at, days_next y)
years_more y (suc j) z e =
    let at : z ≡ suc (suc y + j) = omega (arith, e) in
    omega (arith, ap days_of_years at, days_next (suc y + j), years_more y j (suc y + j) refl)

pub months_next : (y n : ℕ) → days_of_months y (suc n) ≡ days_of_months y n + days_in_month y (suc n)
unfolding days_of_months
months_next y n = refl

pub months_none : (y : ℕ) → days_of_months y 0 ≡ 0
unfolding days_of_months
months_none y = refl

-- more months have more days
pub months_more : (y n j k : ℕ) → k ≡ n + j → days_of_months y n ≤ days_of_months y k
months_more y n zero k e =
    let at : k ≡ n = omega (arith, e) in
    omega (arith, ap (days_of_months y) at)
months_more y n (suc j) k e =
    let at : k ≡ suc (n + j) = omega (arith, e) in
    omega (arith, ap (days_of_months y) at, months_next y (n + j), months_more y n j (n + j) refl)

to_february : (y : ℕ) → days_of_months y 2 ≡ 31 + days_in_month y 2
to_february y = omega (arith, months_next y 1, months_next y 0, months_none y)

to_july : (y : ℕ) → days_of_months y 7 ≡ 184 + days_in_month y 2
to_july y = omega (
  arith,
  to_february y,
  months_next y 2,
  months_next y 3,
  months_next y 4,
  months_next y 5,
  months_next y 6,
)

to_december : (y : ℕ) → days_of_months y 12 ≡ 337 + days_in_month y 2
to_december y = omega (
  arith,
  to_july y,
  months_next y 7,
  months_next y 8,
  months_next y 9,
  months_next y 10,
  months_next y 11,
)

leap_day : (y : ℕ) → 337 + days_in_month y 2 ≡ days_in_year y
leap_day y = elim (is_leap y) as (λ b. 337 + (if b then 29 else 28) ≡ (if b then 366 else 365)) [
  | true ↦ refl
  | false ↦ refl
]

pub months_sum : (y : ℕ) → days_of_months y 12 ≡ days_in_year y
months_sum y = omega (arith, to_december y, leap_day y)

pub year_long : (y : ℕ) → days_in_year y ≤ 366
year_long y = elim (is_leap y) as (λ b. (if b then 366 else 365) ≤ 366) [
  | true ↦ omega arith
  | false ↦ omega arith
]

-- a day of a month is within the year
pub in_year : (y m d : ℕ) → 1 ≤ m → m ≤ 12 → d ≤ days_in_month y m
    → days_of_months y (m - 1) + d ≤ days_in_year y
in_year y zero d a b e = absurd (omega (arith, a))
in_year y (suc m) d a b e =
    let until : 12 ≡ suc m + (11 - m) = omega (arith, b) in
    let same : suc m - 1 ≡ m = omega arith in
    omega (arith, e, ap (days_of_months y) same, months_next y m, months_more y (suc m) (11 - m) 12 until, months_sum y)

pub months_fit : (y m d : ℕ) → 1 ≤ m → m ≤ 12 → d ≤ days_in_month y m
    → days_of_months y (m - 1) + d ≤ 366
months_fit y m d a b e = omega (arith, in_year y m d a b e, year_long y)

pub at_least : (y : ℕ) → 365 ≤ days_of_months y 12
at_least y = omega (
  arith,
  months_sum y,
  elim (is_leap y) as (λ b. 365 ≤ (if b then 366 else 365)) [
    | true ↦ omega arith
    | false ↦ omega arith
  ],
)

-- The year where the search begins starts on the day or before it, since 400 years have 146,097
-- days.
early : (y n : ℕ) → 146097 * (y + 1) ≤ 400 * n → days_of_years y ≤ n
early y n h = omega (arith, days_before y, h)

none_before : days_of_years 0 ≡ 0
unfolding days_of_years
none_before = refl

pub first_year : (n : ℕ) → n ≤ 730484999
    → (days_of_years (n * 400 / 146097 - 1) ≤ n) × (n * 400 / 146097 - 1 ≤ 1999999)
first_year n h = by (n * 400 / 146097) refl
  where
    by : (q : ℕ) → q ≡ n * 400 / 146097 → (days_of_years (q - 1) ≤ n) × (q - 1 ≤ 1999999)
    by zero e = (omega (arith, none_before), omega arith)
    by (suc q) e =
        let same : suc q - 1 ≡ q = omega arith in
        (omega (arith, ap days_of_years same, early q n (omega (arith, e))), omega (arith, e, h))

pub year_within : (y n : ℕ) → n ≤ 730484999 → days_of_years y ≤ n → y ≤ 1999999
year_within y n h k = omega (arith, days_before y, h, k)

-- an ordinal after the end of a month
pub month_left : (y m d o : ℕ) → 1 ≤ m → m ≤ 12 → days_of_months y (m - 1) + d ≡ o → o ≤ days_in_year y
    → days_in_month y m < d
    → (days_of_months y (m + 1 - 1) + (d - days_in_month y m) ≡ o) × (1 ≤ m + 1) × (m + 1 ≤ 12)
    × (1 ≤ d - days_in_month y m)
month_left y zero d o a b e within more = absurd (omega (arith, a))
month_left y (suc m) d o a b e within more =
    let here : suc m - 1 ≡ m = omega arith in
    let next : suc m + 1 - 1 ≡ suc m = omega arith in
    let at = ap (days_of_months y) here in
    let after = ap (days_of_months y) next in (
      omega (arith, e, more, at, after, months_next y m),
      omega arith,
      not_last (cases_order (suc m) 12),
      omega (arith, more),
    )
  where
    not_last : (suc m ≡ 12) ⊎ ((suc m < 12) ⊎ (12 < suc m)) → suc m + 1 ≤ 12
    not_last (inl e12) =
        let eleven : suc m - 1 ≡ 11 = omega (arith, e12) in
        let twelve : suc m ≡ suc 11 = omega (arith, e12) in
        absurd (omega (
          arith,
          e,
          within,
          more,
          ap (days_of_months y) eleven,
          ap (days_in_month y) twelve,
          months_next y 11,
          months_sum y,
        ))
    not_last (inr (inl before)) = omega (arith, before)
    not_last (inr (inr after)) = absurd (omega (arith, after, b))

-- a day before the next year begins
pub year_found : (y n : ℕ) → n < days_of_years (y + 1) → 366 ≤ n
    → (n < days_of_years y + days_in_year y) × (1 ≤ y)
year_found y n h k =
    let next : y + 1 ≡ suc y = omega arith in
    let ends : days_of_years (y + 1) ≡ days_of_years y + days_in_year y =
    ap days_of_years next ∙ days_next y in
    (omega (arith, h, ends), some y (omega (arith, h, ends)))
  where
    some : (z : ℕ) → n < days_of_years z + days_in_year z → 1 ≤ z
    some zero h = absurd (omega (arith, h, k, none_before, year_long 0))
    some (suc z) h = omega arith
