-- Which number is out of range, and the sentence that says so.
use Rattle.std.specs.Prelude.{ℕ, ◌||◌, ◌==◌, nat_lt, if◌then◌else◌, List, codes, Option, Some, None, ℤ, unsigned_abs}
use Rattle.timefd_date_moment.specs.declared.component_range.ComponentRange.{ComponentRange}
use Rattle.timefd_date_moment.specs.declared.component_range.ComponentRange.TheVariants as of
use Rattle.timefd_date_moment.specs.Calendar.{days_in_month, counted}

-- the first number of a date that is out of range
abbrev pub date_fault : ℤ → ℕ → ℕ → Option ComponentRange
date_fault year m d =
    if nat_lt 999999 (unsigned_abs year) then Some of.Year
    else (if (m == 0) || nat_lt 12 m then Some of.Month
    else (if (d == 0) || nat_lt (days_in_month (counted year) m) d then Some of.Day else None))

-- the first number of a time of day that is out of range
abbrev pub time_fault : ℕ → ℕ → ℕ → ℕ → Option ComponentRange
time_fault h m s n =
    if nat_lt 23 h then Some of.Hour
    else (if nat_lt 59 m then Some of.Minute
    else (if nat_lt 59 s then Some of.Second
    else (if nat_lt 999999999 n then Some of.Nanosecond else None)))

abbrev pub sentence : ComponentRange → List ℕ
sentence of.Year = codes "year must be in the range -999999..=999999"
sentence of.Month = codes "month must be in the range 1..=12"
sentence of.Day = codes "the month has no such day"
sentence of.Hour = codes "hour must be in the range 0..=23"
sentence of.Minute = codes "minute must be in the range 0..=59"
sentence of.Second = codes "second must be in the range 0..=59"
sentence of.Nanosecond = codes "nanosecond must be in the range 0..=999999999"
sentence of.Offset = codes "offset must be less than 26 hours from UTC"
sentence of.Instant = codes "instant must be in the years -999999 to 999999 of UTC"
