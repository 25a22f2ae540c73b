-- The years that a date with what was read is sought in, counted from the year -1,000,000.
use Rattle.std.specs.Prelude.{ℕ, ◌+◌, ◌-◌, ◌*◌, ◌<◌, ◌≤◌, min, Bool, ◌&&◌, if◌then◌else◌, Option, Some, None}
use Rattle.timefd_date_moment.specs.declared.date.Date.{Date}
use Rattle.timefd_date_moment.specs.declared.fields.fields.Fields.{Fields}
use Rattle.timefd_date_moment.specs.declared.fields.fields.Signed.{Signed}
use Rattle.timefd_date_moment.specs.Reading.Shown.{is_century, is_last_two, is_year}

-- the year has what was read of it
abbrev pub fits : Fields → ℕ → Bool
fits f years = is_year f.year years && (is_century f.century years && is_last_two f.year_last_two years)

-- the year before those of a sign and a number of `unit` years
abbrev pub year_before : Bool → ℕ → ℕ → ℕ
year_before is_negative number unit =
    if is_negative then 1000000 - min (number * unit + unit) 1000000
    else 999999 + min (number * unit) 1000000

abbrev pub before_those_of : Signed → ℕ → ℕ
before_those_of s unit = year_before s.is_negative (min s.magnitude 1000000) unit

abbrev pub first_by : Option Signed → Option Signed → Option Signed → Option Signed → ℕ
first_by (Some s) century iso_year iso_century = before_those_of s 1
first_by None (Some s) iso_year iso_century = before_those_of s 100
first_by None None (Some s) iso_century = before_those_of s 1
first_by None None None (Some s) = before_those_of s 100
first_by None None None None = 1002000

-- The first year: the one before the year or the century that was read, since the year of ISO weeks may be
-- that of the next one. Without any it is 2000.
abbrev pub first_year : Fields → ℕ
first_year f = first_by f.year f.century f.iso_year f.iso_century

-- In 400 years each month begins on each weekday, in leap years too, and two digits end each of four years.
-- The years are those of such a period, the one before it and the one after it.
abbrev pub IsOfYears : ℕ → Date → Type 0
IsOfYears first d = (first ≤ d.years) × (d.years < first + 402)
