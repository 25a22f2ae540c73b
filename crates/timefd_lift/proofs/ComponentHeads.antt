-- The bracket of each component.
use Rattle.std.proofs.Common.{Bool, true, false}
use Rattle.timefd_modifier.specs.declared.month.Month.{Month as MonthFields}
use Rattle.timefd_modifier.specs.declared.day.Weekday.{Weekday as WeekdayFields}
use Rattle.timefd_modifier.specs.declared.week.WeekNumber.{WeekNumber as WeekNumberFields}
use Rattle.timefd_modifier.specs.declared.clock.Hour.{Hour as HourFields}
use Rattle.timefd_modifier.specs.declared.timestamp.UnixTimestamp.{UnixTimestamp as UnixTimestampFields}
use Rattle.timefd_modifier.specs.declared.year.Year.{Year as YearFields}
use Rattle.timefd_modifier.specs.declared.enums.MonthRepr.{MonthRepr}
use Rattle.timefd_modifier.specs.declared.enums.WeekdayRepr.{WeekdayRepr}
use Rattle.timefd_modifier.specs.declared.enums.WeekNumberRepr.{WeekNumberRepr}
use Rattle.timefd_modifier.specs.declared.enums.UnixTimestampPrecision.{UnixTimestampPrecision}
use Rattle.timefd_modifier.specs.declared.enums.YearRepr.{YearRepr}
use Rattle.timefd_modifier.specs.declared.enums.YearRange.{YearRange}
use Rattle.timefd_lang_component.specs.declared.component.Component.{Component}
use Rattle.timefd_lang_component.specs.declared.component.Component.TheVariants.{Day, MonthShort, MonthLong, MonthNumerical, Ordinal, WeekdayShort, WeekdayLong, WeekdaySunday, WeekdayMonday, WeekNumberIso, WeekNumberSunday, WeekNumberMonday, CalendarYearFullExtendedRange, CalendarYearFullStandardRange, CalendarYearCenturyExtendedRange, CalendarYearCenturyStandardRange, IsoYearFullExtendedRange, IsoYearFullStandardRange, IsoYearCenturyExtendedRange, IsoYearCenturyStandardRange, CalendarYearLastTwo, IsoYearLastTwo, Hour12, Hour24, Minute, Period, Second, Subsecond, OffsetHour, OffsetMinute, OffsetSecond, Ignore, UnixTimestampSecond, UnixTimestampMillisecond, UnixTimestampMicrosecond, UnixTimestampNanosecond, End, Month, Weekday, WeekNumber, Hour, UnixTimestamp, Year}
use Rattle.timefd_lang_component.specs.Modern.{modern, modern_month, modern_weekday, modern_week_number, modern_hour, modern_timestamp, modern_year}
use Rattle.timefd_lift.specs.Plain.{IsCounted}
use Rattle.timefd_lift.proofs.Heads.{IsShownAs}
use Rattle.timefd_lift.proofs.DateHeads.{day, month_short, month_long, month_numerical, ordinal, weekday_short, weekday_long, weekday_sunday, weekday_monday, week_iso, week_sunday, week_monday}
use Rattle.timefd_lift.proofs.YearHeads.{full_extended, full_standard, century_extended, century_standard, last_two, iso_full_extended, iso_full_standard, iso_century_extended, iso_century_standard, iso_last_two}
use Rattle.timefd_lift.proofs.TimeHeads.{hour_12, hour_24, minute, period, second, subsecond, offset_hour, offset_minute, offset_second, timestamp_second, timestamp_millisecond, timestamp_microsecond, timestamp_nanosecond, end}
use Rattle.timefd_lift.proofs.CountText.{ignore}

month : (r : MonthRepr) (m : MonthFields) → IsShownAs (modern_month r m)
month MonthRepr.Short m = month_short m.case_sensitive
month MonthRepr.Long m = month_long m.case_sensitive
month MonthRepr.Numerical m = month_numerical m.padding

weekday : (r : WeekdayRepr) (w : WeekdayFields) → IsShownAs (modern_weekday r w)
weekday WeekdayRepr.Short w = weekday_short w.case_sensitive
weekday WeekdayRepr.Long w = weekday_long w.case_sensitive
weekday WeekdayRepr.Sunday w = weekday_sunday w.one_indexed
weekday WeekdayRepr.Monday w = weekday_monday w.one_indexed

week_number : (r : WeekNumberRepr) (w : WeekNumberFields) → IsShownAs (modern_week_number r w)
week_number WeekNumberRepr.Iso w = week_iso w.padding
week_number WeekNumberRepr.Sunday w = week_sunday w.padding
week_number WeekNumberRepr.Monday w = week_monday w.padding

hour : (is_12_hour_clock : Bool) (h : HourFields) → IsShownAs (modern_hour is_12_hour_clock h)
hour true h = hour_12 h.padding
hour false h = hour_24 h.padding

timestamp : (p : UnixTimestampPrecision) (t : UnixTimestampFields)
    → IsShownAs (modern_timestamp p t)
timestamp UnixTimestampPrecision.Second t = timestamp_second t.sign_is_mandatory
timestamp UnixTimestampPrecision.Millisecond t = timestamp_millisecond t.sign_is_mandatory
timestamp UnixTimestampPrecision.Microsecond t = timestamp_microsecond t.sign_is_mandatory
timestamp UnixTimestampPrecision.Nanosecond t = timestamp_nanosecond t.sign_is_mandatory

year : (is_iso : Bool) (k : YearRepr) (r : YearRange) (y : YearFields)
    → IsShownAs (modern_year is_iso k r y)
year false YearRepr.Full YearRange.Extended y = full_extended y.padding y.sign_is_mandatory
year false YearRepr.Full YearRange.Standard y = full_standard y.padding y.sign_is_mandatory
year false YearRepr.Century YearRange.Extended y = century_extended y.padding y.sign_is_mandatory
year false YearRepr.Century YearRange.Standard y = century_standard y.padding y.sign_is_mandatory
year false YearRepr.LastTwo r y = last_two y.padding
year true YearRepr.Full YearRange.Extended y = iso_full_extended y.padding y.sign_is_mandatory
year true YearRepr.Full YearRange.Standard y = iso_full_standard y.padding y.sign_is_mandatory
year true YearRepr.Century YearRange.Extended y = iso_century_extended y.padding y.sign_is_mandatory
year true YearRepr.Century YearRange.Standard y = iso_century_standard y.padding y.sign_is_mandatory
year true YearRepr.LastTwo r y = iso_last_two y.padding

pub component-shown : (c : Component) → IsCounted c → IsShownAs (modern c)
component-shown (Day m) counted = day m.padding
component-shown (MonthShort m) counted = month_short m.case_sensitive
component-shown (MonthLong m) counted = month_long m.case_sensitive
component-shown (MonthNumerical m) counted = month_numerical m.padding
component-shown (Ordinal m) counted = ordinal m.padding
component-shown (WeekdayShort m) counted = weekday_short m.case_sensitive
component-shown (WeekdayLong m) counted = weekday_long m.case_sensitive
component-shown (WeekdaySunday m) counted = weekday_sunday m.one_indexed
component-shown (WeekdayMonday m) counted = weekday_monday m.one_indexed
component-shown (WeekNumberIso m) counted = week_iso m.padding
component-shown (WeekNumberSunday m) counted = week_sunday m.padding
component-shown (WeekNumberMonday m) counted = week_monday m.padding
component-shown (CalendarYearFullExtendedRange m) counted =
    full_extended m.padding m.sign_is_mandatory
component-shown (CalendarYearFullStandardRange m) counted =
    full_standard m.padding m.sign_is_mandatory
component-shown (CalendarYearCenturyExtendedRange m) counted =
    century_extended m.padding m.sign_is_mandatory
component-shown (CalendarYearCenturyStandardRange m) counted =
    century_standard m.padding m.sign_is_mandatory
component-shown (IsoYearFullExtendedRange m) counted =
    iso_full_extended m.padding m.sign_is_mandatory
component-shown (IsoYearFullStandardRange m) counted =
    iso_full_standard m.padding m.sign_is_mandatory
component-shown (IsoYearCenturyExtendedRange m) counted =
    iso_century_extended m.padding m.sign_is_mandatory
component-shown (IsoYearCenturyStandardRange m) counted =
    iso_century_standard m.padding m.sign_is_mandatory
component-shown (CalendarYearLastTwo m) counted = last_two m.padding
component-shown (IsoYearLastTwo m) counted = iso_last_two m.padding
component-shown (Hour12 m) counted = hour_12 m.padding
component-shown (Hour24 m) counted = hour_24 m.padding
component-shown (Minute m) counted = minute m.padding
component-shown (Period m) counted = period m.is_uppercase m.case_sensitive
component-shown (Second m) counted = second m.padding
component-shown (Subsecond m) counted = subsecond m.digits
component-shown (OffsetHour m) counted = offset_hour m.padding m.sign_is_mandatory
component-shown (OffsetMinute m) counted = offset_minute m.padding
component-shown (OffsetSecond m) counted = offset_second m.padding
component-shown (Ignore m) counted = ignore m.count counted
component-shown (UnixTimestampSecond m) counted = timestamp_second m.sign_is_mandatory
component-shown (UnixTimestampMillisecond m) counted = timestamp_millisecond m.sign_is_mandatory
component-shown (UnixTimestampMicrosecond m) counted = timestamp_microsecond m.sign_is_mandatory
component-shown (UnixTimestampNanosecond m) counted = timestamp_nanosecond m.sign_is_mandatory
component-shown (End m) counted = end m.trailing_input
component-shown (Month m) counted = month m.repr m
component-shown (Weekday m) counted = weekday m.repr m
component-shown (WeekNumber m) counted = week_number m.repr m
component-shown (Hour m) counted = hour m.is_12_hour_clock m
component-shown (UnixTimestamp m) counted = timestamp m.precision m
component-shown (Year m) counted = year m.iso_week_based m.repr m.range m
