-- The Gregorian calendar, extended to all years. Years are counted from the year -1,000,000, so
-- that all of them are natural numbers. That year begins a period of 400 years, and is 1,000,000
-- years before the year 0.
use Rattle.std.specs.Prelude.{ℕ, zero, suc, ◌+◌, ◌-◌, ◌%◌, ◌≤◌, Bool, not, ◌&&◌, ◌||◌, ◌==◌, if◌then◌else◌, ℤ, pos, ◌+ℤ◌, unsigned_abs}

-- every fourth year, but only every fourth of those that end a century
abbrev pub is_leap : ℕ → Bool
is_leap y = (y % 4 == 0) && (not (y % 100 == 0) || (y % 400 == 0))

abbrev pub days_in_year : ℕ → ℕ
days_in_year y = if is_leap y then 366 else 365

-- thirty days have September, April, June and November
abbrev pub days_in_month : ℕ → ℕ → ℕ
days_in_month y m =
    if m == 2 then (if is_leap y then 29 else 28)
    else (if (m == 4) || (m == 6) || (m == 9) || (m == 11) then 30 else 31)

-- the days of all years before this one
unfoldable pub days_of_years : ℕ → ℕ
days_of_years zero = 0
days_of_years (suc y) = days_of_years y + days_in_year y

-- the days of the first `m` months of a year
unfoldable pub days_of_months : ℕ → ℕ → ℕ
days_of_months y zero = 0
days_of_months y (suc m) = days_of_months y m + days_in_month y (suc m)

-- the number of a day in its year, from 1
abbrev pub ordinal : ℕ → ℕ → ℕ → ℕ
ordinal y m d = days_of_months y (m - 1) + d

-- The year -1,000,000 began on a Saturday, as 2000 did. Counted from Monday, that is day 5.
abbrev pub weekday_of_day : ℕ → ℕ
weekday_of_day day = (day + 5) % 7

-- this day exists, and its year is from -999,999 to 999,999
abbrev pub IsDay : ℕ → ℕ → ℕ → Type 0
IsDay y m d =
    (1 ≤ y) × (y ≤ 1999999) × (1 ≤ m) × (m ≤ 12) × (1 ≤ d) × (d ≤ days_in_month y m)

-- a signed year, counted from the year -1,000,000
abbrev pub counted : ℤ → ℕ
counted year = unsigned_abs (year +ℤ pos 1000000)
