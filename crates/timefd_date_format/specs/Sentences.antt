-- The sentences of the errors. Each names the component.
use Rattle.std.specs.Prelude.{◌++◌, codes, Option, Some, None}
use Rattle.timefd_lang_component.specs.declared.component.Component.{Component}
use Rattle.timefd_lang_component.specs.declared.component.Component.TheVariants.{Day, MonthShort, MonthLong, MonthNumerical, Ordinal, WeekdayShort, WeekdayLong, WeekdaySunday, WeekdayMonday, WeekNumberIso, WeekNumberSunday, WeekNumberMonday, CalendarYearFullExtendedRange, CalendarYearFullStandardRange, CalendarYearCenturyExtendedRange, CalendarYearCenturyStandardRange, IsoYearFullExtendedRange, IsoYearFullStandardRange, IsoYearCenturyExtendedRange, IsoYearCenturyStandardRange, CalendarYearLastTwo, IsoYearLastTwo, Hour12, Hour24, Minute, Second, Period, Subsecond, OffsetHour, OffsetMinute, OffsetSecond, UnixTimestampSecond, UnixTimestampMillisecond, UnixTimestampMicrosecond, UnixTimestampNanosecond, Ignore, End, Month, Weekday, WeekNumber, Hour, UnixTimestamp, Year}
use Rattle.timefd_lang_component.specs.Tree.{Text}
use Rattle.timefd_date_format.specs.declared.field.Lack.{Lack}
use Rattle.timefd_date_format.specs.declared.field.Lack.TheVariants as lack
use Rattle.timefd_date_format.specs.declared.field.Unshown.{Unshown}
use Rattle.timefd_date_format.specs.declared.write.FormatError.{FormatError}
use Rattle.timefd_date_format.specs.declared.write.FormatError.TheVariants as fails
use Rattle.timefd_date_format.specs.declared.text.TextError.{TextError}
use Rattle.timefd_date_format.specs.declared.text.TextError.TheVariants as reported
use Rattle.timefd_date_format.specs.declared.output.OutputError.{OutputError}
use Rattle.timefd_date_format.specs.declared.output.OutputError.TheVariants as ends

-- The name at the start of the component's bracket.
abbrev pub name : Component → Text
name (Day m) = codes "day"
name (MonthShort m) = codes "month"
name (MonthLong m) = codes "month"
name (MonthNumerical m) = codes "month"
name (Ordinal m) = codes "ordinal"
name (WeekdayShort m) = codes "weekday"
name (WeekdayLong m) = codes "weekday"
name (WeekdaySunday m) = codes "weekday"
name (WeekdayMonday m) = codes "weekday"
name (WeekNumberIso m) = codes "week_number"
name (WeekNumberSunday m) = codes "week_number"
name (WeekNumberMonday m) = codes "week_number"
name (CalendarYearFullExtendedRange m) = codes "year"
name (CalendarYearFullStandardRange m) = codes "year"
name (CalendarYearCenturyExtendedRange m) = codes "year"
name (CalendarYearCenturyStandardRange m) = codes "year"
name (IsoYearFullExtendedRange m) = codes "year"
name (IsoYearFullStandardRange m) = codes "year"
name (IsoYearCenturyExtendedRange m) = codes "year"
name (IsoYearCenturyStandardRange m) = codes "year"
name (CalendarYearLastTwo m) = codes "year"
name (IsoYearLastTwo m) = codes "year"
name (Hour12 m) = codes "hour"
name (Hour24 m) = codes "hour"
name (Minute m) = codes "minute"
name (Second m) = codes "second"
name (Period m) = codes "period"
name (Subsecond m) = codes "subsecond"
name (OffsetHour m) = codes "offset_hour"
name (OffsetMinute m) = codes "offset_minute"
name (OffsetSecond m) = codes "offset_second"
name (UnixTimestampSecond m) = codes "unix_timestamp"
name (UnixTimestampMillisecond m) = codes "unix_timestamp"
name (UnixTimestampMicrosecond m) = codes "unix_timestamp"
name (UnixTimestampNanosecond m) = codes "unix_timestamp"
name (Ignore m) = codes "ignore"
name (End m) = codes "end"
name (Month m) = codes "month"
name (Weekday m) = codes "weekday"
name (WeekNumber m) = codes "week_number"
name (Hour m) = codes "hour"
name (UnixTimestamp m) = codes "unix_timestamp"
name (Year m) = codes "year"

-- Why a component shows nothing.
abbrev pub reason : Lack → Text
reason lack.NoDate = codes "the value has no date"
reason lack.NoTime = codes "the value has no time of day"
reason lack.NoOffset = codes "the value has no offset from UTC"
reason lack.YearTooLong = codes "the year has too many digits"
reason lack.InstantOutOfRange = codes "the instant is in no year from -999999 to 999999 of UTC"

abbrev pub unshown_sentence : Unshown → Text
unshown_sentence u =
    codes "the component `" ++ (name u.component ++ (codes "` shows nothing: " ++ reason u.lack))

abbrev pub format_sentence : FormatError → Text
format_sentence (fails.Unshown u) = unshown_sentence u
format_sentence fails.Room = codes "the buffer has no room for the text"

abbrev pub text_sentence : TextError → Text
text_sentence (reported.Unshown u) = unshown_sentence u
text_sentence (reported.Memory e) = codes "memory ran out"

-- The sentence of an output's own error is left to that error.
abbrev pub output_sentence : OutputError → Option Text
output_sentence (ends.Unshown u) = Some (unshown_sentence u)
output_sentence (ends.Memory e) = Some (codes "memory ran out")
output_sentence (ends.Io e) = None
