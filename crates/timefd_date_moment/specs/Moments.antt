-- What a formatter knows of a value, and the numbers that its components show.
use Rattle.std.specs.Prelude.{ℕ, ◌+◌, ◌-◌, ◌*◌, ◌/◌, ◌%◌, Bool, true, false, nat_lt, nat_le, if◌then◌else◌}
use Rattle.timefd_date_moment.specs.declared.date.Date.{Date}
use Rattle.timefd_date_moment.specs.declared.time.Time.{Time}
use Rattle.timefd_date_moment.specs.declared.offset.UtcOffset.{UtcOffset}
use Rattle.timefd_date_moment.specs.declared.unix_time.UnixTime.{UnixTime}
use Rattle.timefd_date_moment.specs.Calendar.{days_of_years, days_in_year, ordinal, weekday_of_day}

-- the number of a date in its year, from 1
abbrev pub date_ordinal : Date → ℕ
date_ordinal d = ordinal d.years d.month d.day

-- the number of days from 1 January of the year -1,000,000 to a date
abbrev pub day_number : Date → ℕ
day_number d = days_of_years d.years + (date_ordinal d - 1)

-- the number of days after a Monday, and after a Sunday
abbrev pub days_from_monday : Date → ℕ
days_from_monday d = weekday_of_day (day_number d)

abbrev pub days_from_sunday : Date → ℕ
days_from_sunday d = (days_from_monday d + 1) % 7

-- A week of ISO 8601, from Monday to Sunday, belongs to the year that its Thursday is in. This is
-- the ordinal of that Thursday in the year of the date, plus seven.
abbrev pub thursday : Date → ℕ
thursday d = date_ordinal d + 10 - days_from_monday d

abbrev pub iso_years : Date → ℕ
iso_years d =
    if nat_le (thursday d) 7 then d.years - 1
    else (if nat_lt (days_in_year d.years + 7) (thursday d) then d.years + 1 else d.years)

abbrev pub iso_week : Date → ℕ
iso_week d =
    if nat_le (thursday d) 7 then (thursday d + days_in_year (d.years - 1) - 8) / 7 + 1
    else (if nat_lt (days_in_year d.years + 7) (thursday d) then 1 else (thursday d - 8) / 7 + 1)

-- how many weeks of the year have begun by the day with the ordinal `ordinal`, `past` days after the
-- start of its week
abbrev pub week_begun : ℕ → ℕ → ℕ
week_begun ordinal past = (ordinal + 6 - past) / 7

abbrev pub sunday_week : Date → ℕ
sunday_week d = week_begun (date_ordinal d) (days_from_sunday d)

abbrev pub monday_week : Date → ℕ
monday_week d = week_begun (date_ordinal d) (days_from_monday d)

-- the magnitude of a year that is counted from the year -1,000,000, and whether it is before the
-- year 0
abbrev pub magnitude : ℕ → ℕ
magnitude y = if nat_lt y 1000000 then 1000000 - y else y - 1000000

abbrev pub is_before_zero : ℕ → Bool
is_before_zero y = nat_lt y 1000000

-- the hour on a twelve-hour clock, from 1 to 12
abbrev pub hour_of_twelve : ℕ → ℕ
hour_of_twelve hour = (hour + 11) % 12 + 1

-- the seconds since midnight
abbrev pub day_second : Time → ℕ
day_second t = t.hour * 3600 + t.minute * 60 + t.second

-- Seconds, counted from about 28 hours before the year -1,000,000. That is more than any offset, so
-- none is negative.
abbrev pub local_seconds : Date → Time → ℕ
local_seconds d t = day_number d * 86400 + day_second t + 100000

abbrev pub local_nanoseconds : Date → Time → ℕ
local_nanoseconds d t = local_seconds d t * 1000000000 + t.nanosecond

-- the same in UTC, if the date and time are shown at an offset
abbrev pub utc_seconds : Date → Time → UtcOffset → ℕ
utc_seconds d t o =
    if o.is_negative then local_seconds d t + o.seconds else local_seconds d t - o.seconds

-- the same for the start of 1970
abbrev pub unix_start : ℕ
unix_start = 365962028 * 86400 + 100000

abbrev pub utc_nanoseconds : Date → Time → UtcOffset → ℕ
utc_nanoseconds d t o = utc_seconds d t o * 1000000000 + t.nanosecond

abbrev pub unix_time : Date → Time → UtcOffset → UnixTime
unix_time d t o =
    if nat_lt (utc_nanoseconds d t o) (unix_start * 1000000000) then (record {
      is_negative = true;
      nanoseconds = unix_start * 1000000000 - utc_nanoseconds d t o;
    }) else (record {
      is_negative = false;
      nanoseconds = utc_nanoseconds d t o - unix_start * 1000000000;
    })
