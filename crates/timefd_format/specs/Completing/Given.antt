-- Which descriptions show the same of each date that has what was read.
use Rattle.std.specs.Prelude.{ℕ, Bool, true, false, ◌&&◌, ◌||◌, List, [], ◌∷◌, Option, is_some}
use Rattle.timefd_lang_component.specs.declared.component.Component.{Component}
use Rattle.timefd_lang_component.specs.declared.component.Component.TheVariants.{Day, MonthShort, MonthLong, MonthNumerical, Ordinal, WeekdayShort, WeekdayLong, WeekdaySunday, WeekdayMonday, WeekNumberIso, WeekNumberSunday, WeekNumberMonday, CalendarYearFullExtendedRange, CalendarYearFullStandardRange, CalendarYearCenturyExtendedRange, CalendarYearCenturyStandardRange, IsoYearFullExtendedRange, IsoYearFullStandardRange, IsoYearCenturyExtendedRange, IsoYearCenturyStandardRange, CalendarYearLastTwo, IsoYearLastTwo, Hour12, Hour24, Minute, Second, OffsetMinute, OffsetSecond, Period, Subsecond, OffsetHour, Ignore, End}
use Rattle.timefd_lang_component.specs.Modern.{modern}
use Rattle.timefd_lang_component.specs.Tree.{Tree, component, literal}
use Rattle.timefd_date_moment.specs.declared.fields.fields.Fields.{Fields}
use Rattle.timefd_date_moment.specs.declared.fields.fields.Signed.{Signed}

-- the year was read, whole or as its century and its last two digits
abbrev pub is_year_given : Option Signed → Option Signed → Option ℕ → Bool
is_year_given year century two = is_some year || (is_some century && is_some two)

-- A modern component shows the same of each date that has what was read. The century of a year alone doesn't:
-- the sign of -0 is that of the years -99 to -1, and the year 0 has none.
abbrev pub is_given : Fields → Component → Bool
is_given f (Day m) = is_some f.day
is_given f (MonthShort m) = is_some f.month
is_given f (MonthLong m) = is_some f.month
is_given f (MonthNumerical m) = is_some f.month
is_given f (Ordinal m) = is_some f.ordinal
is_given f (WeekdayShort m) = is_some f.weekday
is_given f (WeekdayLong m) = is_some f.weekday
is_given f (WeekdaySunday m) = is_some f.weekday
is_given f (WeekdayMonday m) = is_some f.weekday
is_given f (WeekNumberIso m) = is_some f.iso_week
is_given f (WeekNumberSunday m) = is_some f.sunday_week
is_given f (WeekNumberMonday m) = is_some f.monday_week
is_given f (CalendarYearFullExtendedRange m) = is_year_given f.year f.century f.year_last_two
is_given f (CalendarYearFullStandardRange m) = is_year_given f.year f.century f.year_last_two
is_given f (CalendarYearCenturyExtendedRange m) = is_year_given f.year f.century f.year_last_two
is_given f (CalendarYearCenturyStandardRange m) = is_year_given f.year f.century f.year_last_two
is_given f (IsoYearFullExtendedRange m) = is_year_given f.iso_year f.iso_century f.iso_year_last_two
is_given f (IsoYearFullStandardRange m) = is_year_given f.iso_year f.iso_century f.iso_year_last_two
is_given f (IsoYearCenturyExtendedRange m) = is_year_given f.iso_year f.iso_century f.iso_year_last_two
is_given f (IsoYearCenturyStandardRange m) = is_year_given f.iso_year f.iso_century f.iso_year_last_two
is_given f (CalendarYearLastTwo m) = is_some f.year_last_two || is_some f.year
is_given f (IsoYearLastTwo m) = is_some f.iso_year_last_two || is_some f.iso_year
is_given f (Hour12 m) = true
is_given f (Hour24 m) = true
is_given f (Minute m) = true
is_given f (Second m) = true
is_given f (Period m) = true
is_given f (Subsecond m) = true
is_given f (OffsetHour m) = true
is_given f (OffsetMinute m) = true
is_given f (OffsetSecond m) = true
is_given f (Ignore m) = true
is_given f (End m) = true
is_given f timestamp = false

-- A part that is written shows the same of each date that has what was read.
abbrev pub is_part_given : Fields → Tree → Bool
is_part_given f (component c) = is_given f (modern c)
is_part_given f (literal bytes) = true
is_part_given f several = false

-- These parts do, given whether those after them do.
abbrev pub with_parts : Fields → List Tree → Bool → Bool
with_parts f [] after = after
with_parts f (t ∷ ts) after = is_part_given f t && with_parts f ts after

abbrev pub are_given : Fields → List Tree → Bool
are_given f ts = with_parts f ts true
