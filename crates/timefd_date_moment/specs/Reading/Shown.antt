-- Compares the parts of a value with what was read.
use Rattle.std.specs.Prelude.{ℕ, ◌/◌, ◌%◌, ◌==◌, Bool, true, ◌&&◌, ◌||◌, nat_le, IsTrue, List, [], ◌∷◌, if◌then◌else◌, Option, Some, None}
use Rattle.timefd_date_moment.specs.declared.fields.fields.Fields.{Fields}
use Rattle.timefd_date_moment.specs.declared.fields.fields.Signed.{Signed}
use Rattle.timefd_date_moment.specs.declared.fields.fields.Fraction.{Fraction}
use Rattle.timefd_date_moment.specs.Fields.Readings.{same}
use Rattle.timefd_date_moment.specs.declared.date.Date.{Date}
use Rattle.timefd_date_moment.specs.declared.time.Time.{Time}
use Rattle.timefd_date_moment.specs.declared.offset.UtcOffset.{UtcOffset}
use Rattle.timefd_date_moment.specs.Moments.{date_ordinal, days_from_monday, iso_years, iso_week, sunday_week, monday_week, magnitude, is_before_zero, hour_of_twelve}
use Rattle.timefd_date_moment.specs.declared.reading.part.DatePart.{DatePart}
use Rattle.timefd_date_moment.specs.declared.reading.part.TimePart.{TimePart}
use Rattle.timefd_date_moment.specs.declared.reading.part.OffsetPart.{OffsetPart}

-- The number is as it was read. If it wasn't read, there is nothing to compare, except that minutes,
-- seconds and their digits have to be 0 then.
abbrev pub is_count : Option ℕ → ℕ → Bool
is_count None n = true
is_count (Some k) n = k == n

abbrev pub is_count_or_zero : Option ℕ → ℕ → Bool
is_count_or_zero None n = n == 0
is_count_or_zero (Some k) n = k == n

abbrev pub is_flag : Option Bool → Bool → Bool
is_flag None b = true
is_flag (Some a) b = same a b

-- A part of a number is read with the sign of the whole number. Zero may have either sign.
abbrev pub is_shown : Option Signed → Bool → ℕ → ℕ → Bool
is_shown None is_negative whole part = true
is_shown (Some s) is_negative whole part =
    (s.magnitude == part) && ((whole == 0) || same s.is_negative is_negative)

abbrev pub is_year : Option Signed → ℕ → Bool
is_year s years = is_shown s (is_before_zero years) (magnitude years) (magnitude years)

abbrev pub is_century : Option Signed → ℕ → Bool
is_century s years = is_shown s (is_before_zero years) (magnitude years) (magnitude years / 100)

abbrev pub is_last_two : Option ℕ → ℕ → Bool
is_last_two n years = is_count n (magnitude years % 100)

abbrev pub date_has : Fields → Date → DatePart → Bool
date_has f d DatePart.Day = is_count f.day d.day
date_has f d DatePart.Month = is_count f.month d.month
date_has f d DatePart.Ordinal = is_count f.ordinal (date_ordinal d)
date_has f d DatePart.Weekday = is_count f.weekday (days_from_monday d)
date_has f d DatePart.IsoWeek = is_count f.iso_week (iso_week d)
date_has f d DatePart.SundayWeek = is_count f.sunday_week (sunday_week d)
date_has f d DatePart.MondayWeek = is_count f.monday_week (monday_week d)
date_has f d DatePart.YearLastTwo = is_last_two f.year_last_two d.years
date_has f d DatePart.Century = is_century f.century d.years
date_has f d DatePart.Year = is_year f.year d.years
date_has f d DatePart.IsoYearLastTwo = is_last_two f.iso_year_last_two (iso_years d)
date_has f d DatePart.IsoCentury = is_century f.iso_century (iso_years d)
date_has f d DatePart.IsoYear = is_year f.iso_year (iso_years d)

abbrev pub is_fraction : Option Fraction → ℕ → Bool
is_fraction None n = n == 0
is_fraction (Some f) n = f.nanosecond == n

abbrev pub time_has : Fields → Time → TimePart → Bool
time_has f t TimePart.Hour = is_count f.hour t.hour
time_has f t TimePart.Hour12 = is_count f.hour_12 (hour_of_twelve t.hour)
time_has f t TimePart.Period = is_flag f.is_afternoon (nat_le 12 t.hour)
time_has f t TimePart.Minute = is_count_or_zero f.minute t.minute
time_has f t TimePart.Second = is_count_or_zero f.second t.second
time_has f t TimePart.Subsecond = is_fraction f.subsecond t.nanosecond

abbrev pub offset_has : Fields → UtcOffset → OffsetPart → Bool
offset_has f o OffsetPart.Hour = is_shown f.offset_hour o.is_negative o.seconds (o.seconds / 3600)
offset_has f o OffsetPart.Minute = is_count_or_zero f.offset_minute (o.seconds / 60 % 60)
offset_has f o OffsetPart.Second = is_count_or_zero f.offset_second (o.seconds % 60)

-- The value agrees with every part that was read, and the finer parts of times and offsets that weren't
-- read are 0.

abbrev pub DateAgrees : Fields → Date → Type 0
DateAgrees f d = (part : DatePart) → IsTrue (date_has f d part)

abbrev pub TimeAgrees : Fields → Time → Type 0
TimeAgrees f t = (part : TimePart) → IsTrue (time_has f t part)

abbrev pub OffsetAgrees : Fields → UtcOffset → Type 0
OffsetAgrees f o = (part : OffsetPart) → IsTrue (offset_has f o part)

-- the first part that isn't as it was read
abbrev pub first_false : {A : Type 0} → (A → Bool) → List A → Option A
first_false has [] = None
first_false has (p ∷ ps) = if has p then first_false has ps else Some p

abbrev pub date_parts : List DatePart
date_parts =
    DatePart.Day ∷ DatePart.Month ∷ DatePart.Ordinal ∷ DatePart.Weekday ∷ DatePart.IsoWeek
    ∷ DatePart.SundayWeek ∷ DatePart.MondayWeek ∷ DatePart.YearLastTwo ∷ DatePart.Century ∷ DatePart.Year
    ∷ DatePart.IsoYearLastTwo ∷ DatePart.IsoCentury ∷ DatePart.IsoYear ∷ []

abbrev pub time_parts : List TimePart
time_parts =
    TimePart.Hour ∷ TimePart.Hour12 ∷ TimePart.Period ∷ TimePart.Minute ∷ TimePart.Second
    ∷ TimePart.Subsecond ∷ []

abbrev pub offset_parts : List OffsetPart
offset_parts = OffsetPart.Hour ∷ OffsetPart.Minute ∷ OffsetPart.Second ∷ []
