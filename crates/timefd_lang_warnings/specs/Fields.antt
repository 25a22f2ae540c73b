-- What each component shows.
use Rattle.std.specs.Prelude.{Bool}
use Rattle.timefd_lang_component.specs.declared.component.Component.{Component}
use Rattle.timefd_lang_component.specs.declared.component.Component.TheVariants.{Day, MonthShort, MonthLong, MonthNumerical, Ordinal, WeekdayShort, WeekdayLong, WeekdaySunday, WeekdayMonday, WeekNumberIso, WeekNumberSunday, WeekNumberMonday, CalendarYearFullExtendedRange, CalendarYearFullStandardRange, CalendarYearCenturyExtendedRange, CalendarYearCenturyStandardRange, IsoYearFullExtendedRange, IsoYearFullStandardRange, IsoYearCenturyExtendedRange, IsoYearCenturyStandardRange, CalendarYearLastTwo, IsoYearLastTwo, Hour12, Hour24, Minute, Second, OffsetMinute, OffsetSecond, Period, Subsecond, OffsetHour, UnixTimestampSecond, UnixTimestampMillisecond, UnixTimestampMicrosecond, UnixTimestampNanosecond, Ignore, End}
use Rattle.timefd_lang_component.specs.Modern.{modern}
use Rattle.timefd_lang_warnings.specs.declared.field.ShownField.{ShownField}
use Rattle.timefd_lang_warnings.specs.contracts.field.ShownFieldPartialEq.TheImpl as field_eq

-- no component is deprecated in its modern form
abbrev pub modern_field : Component → ShownField
modern_field (Day m) = ShownField.Day
modern_field (MonthShort m) = ShownField.MonthName
modern_field (MonthLong m) = ShownField.MonthName
modern_field (MonthNumerical m) = ShownField.MonthNumber
modern_field (Ordinal m) = ShownField.Ordinal
modern_field (WeekdayShort m) = ShownField.WeekdayName
modern_field (WeekdayLong m) = ShownField.WeekdayName
modern_field (WeekdaySunday m) = ShownField.WeekdayNumber
modern_field (WeekdayMonday m) = ShownField.WeekdayNumber
modern_field (WeekNumberIso m) = ShownField.IsoWeek
modern_field (WeekNumberSunday m) = ShownField.SundayWeek
modern_field (WeekNumberMonday m) = ShownField.MondayWeek
modern_field (CalendarYearFullExtendedRange m) = ShownField.Year
modern_field (CalendarYearFullStandardRange m) = ShownField.Year
modern_field (CalendarYearCenturyExtendedRange m) = ShownField.Century
modern_field (CalendarYearCenturyStandardRange m) = ShownField.Century
modern_field (IsoYearFullExtendedRange m) = ShownField.IsoYear
modern_field (IsoYearFullStandardRange m) = ShownField.IsoYear
modern_field (IsoYearCenturyExtendedRange m) = ShownField.IsoCentury
modern_field (IsoYearCenturyStandardRange m) = ShownField.IsoCentury
modern_field (CalendarYearLastTwo m) = ShownField.YearLastTwo
modern_field (IsoYearLastTwo m) = ShownField.IsoYearLastTwo
modern_field (Hour12 m) = ShownField.Hour12
modern_field (Hour24 m) = ShownField.Hour24
modern_field (Minute m) = ShownField.Minute
modern_field (Period m) = ShownField.Period
modern_field (Second m) = ShownField.Second
modern_field (Subsecond m) = ShownField.Subsecond
modern_field (OffsetHour m) = ShownField.OffsetHour
modern_field (OffsetMinute m) = ShownField.OffsetMinute
modern_field (OffsetSecond m) = ShownField.OffsetSecond
modern_field (UnixTimestampSecond m) = ShownField.Timestamp
modern_field (UnixTimestampMillisecond m) = ShownField.Timestamp
modern_field (UnixTimestampMicrosecond m) = ShownField.Timestamp
modern_field (UnixTimestampNanosecond m) = ShownField.Timestamp
modern_field (Ignore m) = ShownField.Nothing
modern_field (End m) = ShownField.Nothing
modern_field deprecated = ShownField.Nothing

abbrev pub field_of : Component → ShownField
field_of c = modern_field (modern c)

-- `==` of fields
abbrev pub same_field : ShownField → ShownField → Bool
same_field = (field_eq.ghosts).eq
