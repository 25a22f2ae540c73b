-- Laws of the calendar. They make sure that its definitions aren't just the code written twice.
use Rattle.std.specs.Prelude.{ℕ, ◌≡◌, ◌+◌, ◌-◌, ◌*◌, ◌%◌, ◌<◌, ◌≤◌}
use Rattle.timefd_date_moment.specs.declared.date.Date.{Date}
use Rattle.timefd_date_moment.specs.declared.time.Time.{Time}
use Rattle.timefd_date_moment.specs.declared.offset.UtcOffset.{UtcOffset}
use Rattle.timefd_date_moment.specs.Calendar.{days_in_month, days_in_year, days_of_years, days_of_months, weekday_of_day}
use Rattle.timefd_date_moment.specs.Moments.{day_number, day_second, days_from_monday, iso_years, iso_week, unix_time, utc_nanoseconds}
use Rattle.timefd_date_moment.specs.Instants.{count}

-- the days of February, in a year counted from the year 0
abbrev pub february : ℕ → ℕ
february year = days_in_month (year + 1000000) 2

-- Every fourth year is a leap year, but only every fourth of those that end a century.
abbrev pub LeapYears : Type 0
LeapYears = (year : ℕ) →
    (¬ (year % 4 ≡ 0) → february year ≡ 28)
    × (year % 4 ≡ 0 → ¬ (year % 100 ≡ 0) → february year ≡ 29)
    × (year % 100 ≡ 0 → ¬ (year % 400 ≡ 0) → february year ≡ 28)
    × (year % 400 ≡ 0 → february year ≡ 29)

-- The lengths repeat every 400 years, before the year 0 too.
abbrev pub MonthsRepeat : Type 0
MonthsRepeat = (year month : ℕ) → days_in_month (year + 400) month ≡ days_in_month year month

-- April, June, September and November have 30 days, all others but February have 31
abbrev pub MonthLengths : Type 0
MonthLengths = (year : ℕ) →
    (days_in_month year 1 ≡ 31) × (days_in_month year 3 ≡ 31) × (days_in_month year 4 ≡ 30)
    × (days_in_month year 5 ≡ 31) × (days_in_month year 6 ≡ 30) × (days_in_month year 7 ≡ 31)
    × (days_in_month year 8 ≡ 31) × (days_in_month year 9 ≡ 30) × (days_in_month year 10 ≡ 31)
    × (days_in_month year 11 ≡ 30) × (days_in_month year 12 ≡ 31)

-- the days of the months add up to those of the year
abbrev pub MonthsSum : Type 0
MonthsSum = (year : ℕ) → days_of_months year 12 ≡ days_in_year year

-- a period of 400 years has 146,097 days
abbrev pub YearsRepeat : Type 0
YearsRepeat = (year : ℕ) → days_of_years (year + 400) ≡ days_of_years year + 146097

-- the day after 31 December is 1 January
abbrev pub NewYear : Type 0
NewYear = (d e : Date) → d.month ≡ 12 → d.day ≡ 31 → e.years ≡ d.years + 1 → e.month ≡ 1
    → e.day ≡ 1 → day_number e ≡ day_number d + 1

-- the next day of the same month has the next day number
abbrev pub NextDay : Type 0
NextDay = (d e : Date) → e.years ≡ d.years → e.month ≡ d.month → e.day ≡ d.day + 1
    → day_number e ≡ day_number d + 1

-- the first day of a month comes after the last day of the month before
abbrev pub NextMonth : Type 0
NextMonth = (d e : Date) → d.day ≡ days_in_month d.years d.month → e.years ≡ d.years
    → e.month ≡ d.month + 1 → e.day ≡ 1 → day_number e ≡ day_number d + 1

-- the weekday of the next day is the next one
abbrev pub WeekdaysFollow : Type 0
WeekdaysFollow = (d e : Date) → day_number e ≡ day_number d + 1
    → days_from_monday e ≡ (days_from_monday d + 1) % 7

-- 1 January 1970 was a Thursday, and its midnight in UTC is the instant 0
abbrev pub UnixEpoch : Type 0
UnixEpoch = (d : Date) (t : Time) (o : UtcOffset) → d.years ≡ 1970 + 1000000 → d.month ≡ 1
    → d.day ≡ 1 → day_second t ≡ 0 → t.nanosecond ≡ 0 → o.seconds ≡ 0
    → (days_from_monday d ≡ 3) × ((unix_time d t o).nanoseconds ≡ 0)

-- no two dates have the same day number
abbrev pub OneDate : Type 0
OneDate = (d e : Date) → day_number d ≡ day_number e
    → (d.years ≡ e.years) × (d.month ≡ e.month) × (d.day ≡ e.day)

-- the Monday of the week that has 4 January of a year
abbrev pub first_monday : ℕ → ℕ
first_monday year = days_of_years year + 3 - weekday_of_day (days_of_years year + 3)

-- Week 1 of ISO 8601 is the one with 4 January, and all weeks are counted from it. The last week of
-- a year is before week 1 of the next.
abbrev pub IsoWeeksCounted : Type 0
IsoWeeksCounted = (d : Date) →
    (day_number d + 7 ≡ first_monday (iso_years d) + 7 * iso_week d + days_from_monday d)
    × (1 ≤ iso_week d) × (day_number d < first_monday (iso_years d + 1))

-- the instant of a date, a time and an offset counts their nanoseconds in UTC
abbrev pub InstantKept : Type 0
InstantKept = (d : Date) (t : Time) (o : UtcOffset)
    → count (unix_time d t o) ≡ utc_nanoseconds d t o
