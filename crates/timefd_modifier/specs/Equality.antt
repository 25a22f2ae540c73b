-- `==` of the modifiers.
use Rattle.std.specs.Prelude.{Bool, true, ◌≡◌, ◌↔◌}
use Rattle.timefd_modifier.specs.declared.enums.Padding.{Padding}
use Rattle.timefd_modifier.specs.contracts.enums.PaddingPartialEq.TheImpl as padding_eq
use Rattle.timefd_modifier.specs.declared.enums.MonthRepr.{MonthRepr}
use Rattle.timefd_modifier.specs.contracts.enums.MonthReprPartialEq.TheImpl as month_repr_eq
use Rattle.timefd_modifier.specs.declared.enums.WeekdayRepr.{WeekdayRepr}
use Rattle.timefd_modifier.specs.contracts.enums.WeekdayReprPartialEq.TheImpl as weekday_repr_eq
use Rattle.timefd_modifier.specs.declared.enums.WeekNumberRepr.{WeekNumberRepr}
use Rattle.timefd_modifier.specs.contracts.enums.WeekNumberReprPartialEq.TheImpl as week_number_repr_eq
use Rattle.timefd_modifier.specs.declared.enums.YearRepr.{YearRepr}
use Rattle.timefd_modifier.specs.contracts.enums.YearReprPartialEq.TheImpl as year_repr_eq
use Rattle.timefd_modifier.specs.declared.enums.YearRange.{YearRange}
use Rattle.timefd_modifier.specs.contracts.enums.YearRangePartialEq.TheImpl as year_range_eq
use Rattle.timefd_modifier.specs.declared.enums.SubsecondDigits.{SubsecondDigits}
use Rattle.timefd_modifier.specs.contracts.enums.SubsecondDigitsPartialEq.TheImpl as subsecond_digits_eq
use Rattle.timefd_modifier.specs.declared.enums.UnixTimestampPrecision.{UnixTimestampPrecision}
use Rattle.timefd_modifier.specs.contracts.enums.UnixTimestampPrecisionPartialEq.TheImpl as unix_timestamp_precision_eq
use Rattle.timefd_modifier.specs.declared.enums.TrailingInput.{TrailingInput}
use Rattle.timefd_modifier.specs.contracts.enums.TrailingInputPartialEq.TheImpl as trailing_input_eq
use Rattle.timefd_modifier.specs.declared.day.Day.{Day}
use Rattle.timefd_modifier.specs.contracts.day.DayPartialEq.TheImpl as day_eq
use Rattle.timefd_modifier.specs.declared.day.Ordinal.{Ordinal}
use Rattle.timefd_modifier.specs.contracts.day.OrdinalPartialEq.TheImpl as ordinal_eq
use Rattle.timefd_modifier.specs.declared.day.WeekdayShort.{WeekdayShort}
use Rattle.timefd_modifier.specs.contracts.day.WeekdayShortPartialEq.TheImpl as weekday_short_eq
use Rattle.timefd_modifier.specs.declared.day.WeekdayLong.{WeekdayLong}
use Rattle.timefd_modifier.specs.contracts.day.WeekdayLongPartialEq.TheImpl as weekday_long_eq
use Rattle.timefd_modifier.specs.declared.day.WeekdaySunday.{WeekdaySunday}
use Rattle.timefd_modifier.specs.contracts.day.WeekdaySundayPartialEq.TheImpl as weekday_sunday_eq
use Rattle.timefd_modifier.specs.declared.day.WeekdayMonday.{WeekdayMonday}
use Rattle.timefd_modifier.specs.contracts.day.WeekdayMondayPartialEq.TheImpl as weekday_monday_eq
use Rattle.timefd_modifier.specs.declared.day.Weekday.{Weekday}
use Rattle.timefd_modifier.specs.contracts.day.WeekdayPartialEq.TheImpl as weekday_eq
use Rattle.timefd_modifier.specs.declared.week.WeekNumberIso.{WeekNumberIso}
use Rattle.timefd_modifier.specs.contracts.week.WeekNumberIsoPartialEq.TheImpl as week_number_iso_eq
use Rattle.timefd_modifier.specs.declared.week.WeekNumberSunday.{WeekNumberSunday}
use Rattle.timefd_modifier.specs.contracts.week.WeekNumberSundayPartialEq.TheImpl as week_number_sunday_eq
use Rattle.timefd_modifier.specs.declared.week.WeekNumberMonday.{WeekNumberMonday}
use Rattle.timefd_modifier.specs.contracts.week.WeekNumberMondayPartialEq.TheImpl as week_number_monday_eq
use Rattle.timefd_modifier.specs.declared.week.WeekNumber.{WeekNumber}
use Rattle.timefd_modifier.specs.contracts.week.WeekNumberPartialEq.TheImpl as week_number_eq
use Rattle.timefd_modifier.specs.declared.month.MonthShort.{MonthShort}
use Rattle.timefd_modifier.specs.contracts.month.MonthShortPartialEq.TheImpl as month_short_eq
use Rattle.timefd_modifier.specs.declared.month.MonthLong.{MonthLong}
use Rattle.timefd_modifier.specs.contracts.month.MonthLongPartialEq.TheImpl as month_long_eq
use Rattle.timefd_modifier.specs.declared.month.MonthNumerical.{MonthNumerical}
use Rattle.timefd_modifier.specs.contracts.month.MonthNumericalPartialEq.TheImpl as month_numerical_eq
use Rattle.timefd_modifier.specs.declared.month.Month.{Month}
use Rattle.timefd_modifier.specs.contracts.month.MonthPartialEq.TheImpl as month_eq
use Rattle.timefd_modifier.specs.declared.calendar_year.CalendarYearFullExtendedRange.{CalendarYearFullExtendedRange}
use Rattle.timefd_modifier.specs.contracts.calendar_year.CalendarYearFullExtendedRangePartialEq.TheImpl as calendar_year_full_extended_range_eq
use Rattle.timefd_modifier.specs.declared.calendar_year.CalendarYearFullStandardRange.{CalendarYearFullStandardRange}
use Rattle.timefd_modifier.specs.contracts.calendar_year.CalendarYearFullStandardRangePartialEq.TheImpl as calendar_year_full_standard_range_eq
use Rattle.timefd_modifier.specs.declared.calendar_year.CalendarYearCenturyExtendedRange.{CalendarYearCenturyExtendedRange}
use Rattle.timefd_modifier.specs.contracts.calendar_year.CalendarYearCenturyExtendedRangePartialEq.TheImpl as calendar_year_century_extended_range_eq
use Rattle.timefd_modifier.specs.declared.calendar_year.CalendarYearCenturyStandardRange.{CalendarYearCenturyStandardRange}
use Rattle.timefd_modifier.specs.contracts.calendar_year.CalendarYearCenturyStandardRangePartialEq.TheImpl as calendar_year_century_standard_range_eq
use Rattle.timefd_modifier.specs.declared.calendar_year.CalendarYearLastTwo.{CalendarYearLastTwo}
use Rattle.timefd_modifier.specs.contracts.calendar_year.CalendarYearLastTwoPartialEq.TheImpl as calendar_year_last_two_eq
use Rattle.timefd_modifier.specs.declared.iso_year.IsoYearFullExtendedRange.{IsoYearFullExtendedRange}
use Rattle.timefd_modifier.specs.contracts.iso_year.IsoYearFullExtendedRangePartialEq.TheImpl as iso_year_full_extended_range_eq
use Rattle.timefd_modifier.specs.declared.iso_year.IsoYearFullStandardRange.{IsoYearFullStandardRange}
use Rattle.timefd_modifier.specs.contracts.iso_year.IsoYearFullStandardRangePartialEq.TheImpl as iso_year_full_standard_range_eq
use Rattle.timefd_modifier.specs.declared.iso_year.IsoYearCenturyExtendedRange.{IsoYearCenturyExtendedRange}
use Rattle.timefd_modifier.specs.contracts.iso_year.IsoYearCenturyExtendedRangePartialEq.TheImpl as iso_year_century_extended_range_eq
use Rattle.timefd_modifier.specs.declared.iso_year.IsoYearCenturyStandardRange.{IsoYearCenturyStandardRange}
use Rattle.timefd_modifier.specs.contracts.iso_year.IsoYearCenturyStandardRangePartialEq.TheImpl as iso_year_century_standard_range_eq
use Rattle.timefd_modifier.specs.declared.iso_year.IsoYearLastTwo.{IsoYearLastTwo}
use Rattle.timefd_modifier.specs.contracts.iso_year.IsoYearLastTwoPartialEq.TheImpl as iso_year_last_two_eq
use Rattle.timefd_modifier.specs.declared.year.Year.{Year}
use Rattle.timefd_modifier.specs.contracts.year.YearPartialEq.TheImpl as year_eq
use Rattle.timefd_modifier.specs.declared.clock.Hour12.{Hour12}
use Rattle.timefd_modifier.specs.contracts.clock.Hour12PartialEq.TheImpl as hour12_eq
use Rattle.timefd_modifier.specs.declared.clock.Hour24.{Hour24}
use Rattle.timefd_modifier.specs.contracts.clock.Hour24PartialEq.TheImpl as hour24_eq
use Rattle.timefd_modifier.specs.declared.clock.Hour.{Hour}
use Rattle.timefd_modifier.specs.contracts.clock.HourPartialEq.TheImpl as hour_eq
use Rattle.timefd_modifier.specs.declared.clock.Minute.{Minute}
use Rattle.timefd_modifier.specs.contracts.clock.MinutePartialEq.TheImpl as minute_eq
use Rattle.timefd_modifier.specs.declared.clock.Period.{Period}
use Rattle.timefd_modifier.specs.contracts.clock.PeriodPartialEq.TheImpl as period_eq
use Rattle.timefd_modifier.specs.declared.clock.Second.{Second}
use Rattle.timefd_modifier.specs.contracts.clock.SecondPartialEq.TheImpl as second_eq
use Rattle.timefd_modifier.specs.declared.clock.Subsecond.{Subsecond}
use Rattle.timefd_modifier.specs.contracts.clock.SubsecondPartialEq.TheImpl as subsecond_eq
use Rattle.timefd_modifier.specs.declared.offset.OffsetHour.{OffsetHour}
use Rattle.timefd_modifier.specs.contracts.offset.OffsetHourPartialEq.TheImpl as offset_hour_eq
use Rattle.timefd_modifier.specs.declared.offset.OffsetMinute.{OffsetMinute}
use Rattle.timefd_modifier.specs.contracts.offset.OffsetMinutePartialEq.TheImpl as offset_minute_eq
use Rattle.timefd_modifier.specs.declared.offset.OffsetSecond.{OffsetSecond}
use Rattle.timefd_modifier.specs.contracts.offset.OffsetSecondPartialEq.TheImpl as offset_second_eq
use Rattle.timefd_modifier.specs.declared.timestamp.UnixTimestampSecond.{UnixTimestampSecond}
use Rattle.timefd_modifier.specs.contracts.timestamp.UnixTimestampSecondPartialEq.TheImpl as unix_timestamp_second_eq
use Rattle.timefd_modifier.specs.declared.timestamp.UnixTimestampMillisecond.{UnixTimestampMillisecond}
use Rattle.timefd_modifier.specs.contracts.timestamp.UnixTimestampMillisecondPartialEq.TheImpl as unix_timestamp_millisecond_eq
use Rattle.timefd_modifier.specs.declared.timestamp.UnixTimestampMicrosecond.{UnixTimestampMicrosecond}
use Rattle.timefd_modifier.specs.contracts.timestamp.UnixTimestampMicrosecondPartialEq.TheImpl as unix_timestamp_microsecond_eq
use Rattle.timefd_modifier.specs.declared.timestamp.UnixTimestampNanosecond.{UnixTimestampNanosecond}
use Rattle.timefd_modifier.specs.contracts.timestamp.UnixTimestampNanosecondPartialEq.TheImpl as unix_timestamp_nanosecond_eq
use Rattle.timefd_modifier.specs.declared.timestamp.UnixTimestamp.{UnixTimestamp}
use Rattle.timefd_modifier.specs.contracts.timestamp.UnixTimestampPartialEq.TheImpl as unix_timestamp_eq
use Rattle.timefd_modifier.specs.declared.input.End.{End}
use Rattle.timefd_modifier.specs.contracts.input.EndPartialEq.TheImpl as end_eq
use Rattle.timefd_modifier.specs.declared.input.Ignore.{Ignore}
use Rattle.timefd_modifier.specs.contracts.input.IgnorePartialEq.TheImpl as ignore_eq

-- This test is equality: it holds of two values exactly if their variants and fields are the same.
pub record IsEquality (A : Type 0) (same : A → A → Bool) : Type 0 where
  pub exact : (a b : A) → (same a b ≡ true) ↔ (a ≡ b)

-- `==` of each modifier is equality.
pub record ModifierEquality : Type 0 where
  pub padding : IsEquality Padding (padding_eq.ghosts).eq
  pub month_repr : IsEquality MonthRepr (month_repr_eq.ghosts).eq
  pub weekday_repr : IsEquality WeekdayRepr (weekday_repr_eq.ghosts).eq
  pub week_number_repr : IsEquality WeekNumberRepr (week_number_repr_eq.ghosts).eq
  pub year_repr : IsEquality YearRepr (year_repr_eq.ghosts).eq
  pub year_range : IsEquality YearRange (year_range_eq.ghosts).eq
  pub subsecond_digits : IsEquality SubsecondDigits (subsecond_digits_eq.ghosts).eq
  pub unix_timestamp_precision : IsEquality UnixTimestampPrecision
      (unix_timestamp_precision_eq.ghosts).eq
  pub trailing_input : IsEquality TrailingInput (trailing_input_eq.ghosts).eq
  pub day : IsEquality Day (day_eq.ghosts).eq
  pub ordinal : IsEquality Ordinal (ordinal_eq.ghosts).eq
  pub weekday_short : IsEquality WeekdayShort (weekday_short_eq.ghosts).eq
  pub weekday_long : IsEquality WeekdayLong (weekday_long_eq.ghosts).eq
  pub weekday_sunday : IsEquality WeekdaySunday (weekday_sunday_eq.ghosts).eq
  pub weekday_monday : IsEquality WeekdayMonday (weekday_monday_eq.ghosts).eq
  pub weekday : IsEquality Weekday (weekday_eq.ghosts).eq
  pub week_number_iso : IsEquality WeekNumberIso (week_number_iso_eq.ghosts).eq
  pub week_number_sunday : IsEquality WeekNumberSunday (week_number_sunday_eq.ghosts).eq
  pub week_number_monday : IsEquality WeekNumberMonday (week_number_monday_eq.ghosts).eq
  pub week_number : IsEquality WeekNumber (week_number_eq.ghosts).eq
  pub month_short : IsEquality MonthShort (month_short_eq.ghosts).eq
  pub month_long : IsEquality MonthLong (month_long_eq.ghosts).eq
  pub month_numerical : IsEquality MonthNumerical (month_numerical_eq.ghosts).eq
  pub month : IsEquality Month (month_eq.ghosts).eq
  pub calendar_year_full_extended_range : IsEquality CalendarYearFullExtendedRange
      (calendar_year_full_extended_range_eq.ghosts).eq
  pub calendar_year_full_standard_range : IsEquality CalendarYearFullStandardRange
      (calendar_year_full_standard_range_eq.ghosts).eq
  pub calendar_year_century_extended_range : IsEquality CalendarYearCenturyExtendedRange
      (calendar_year_century_extended_range_eq.ghosts).eq
  pub calendar_year_century_standard_range : IsEquality CalendarYearCenturyStandardRange
      (calendar_year_century_standard_range_eq.ghosts).eq
  pub calendar_year_last_two : IsEquality CalendarYearLastTwo (calendar_year_last_two_eq.ghosts).eq
  pub iso_year_full_extended_range : IsEquality IsoYearFullExtendedRange
      (iso_year_full_extended_range_eq.ghosts).eq
  pub iso_year_full_standard_range : IsEquality IsoYearFullStandardRange
      (iso_year_full_standard_range_eq.ghosts).eq
  pub iso_year_century_extended_range : IsEquality IsoYearCenturyExtendedRange
      (iso_year_century_extended_range_eq.ghosts).eq
  pub iso_year_century_standard_range : IsEquality IsoYearCenturyStandardRange
      (iso_year_century_standard_range_eq.ghosts).eq
  pub iso_year_last_two : IsEquality IsoYearLastTwo (iso_year_last_two_eq.ghosts).eq
  pub year : IsEquality Year (year_eq.ghosts).eq
  pub hour12 : IsEquality Hour12 (hour12_eq.ghosts).eq
  pub hour24 : IsEquality Hour24 (hour24_eq.ghosts).eq
  pub hour : IsEquality Hour (hour_eq.ghosts).eq
  pub minute : IsEquality Minute (minute_eq.ghosts).eq
  pub period : IsEquality Period (period_eq.ghosts).eq
  pub second : IsEquality Second (second_eq.ghosts).eq
  pub subsecond : IsEquality Subsecond (subsecond_eq.ghosts).eq
  pub offset_hour : IsEquality OffsetHour (offset_hour_eq.ghosts).eq
  pub offset_minute : IsEquality OffsetMinute (offset_minute_eq.ghosts).eq
  pub offset_second : IsEquality OffsetSecond (offset_second_eq.ghosts).eq
  pub unix_timestamp_second : IsEquality UnixTimestampSecond (unix_timestamp_second_eq.ghosts).eq
  pub unix_timestamp_millisecond : IsEquality UnixTimestampMillisecond
      (unix_timestamp_millisecond_eq.ghosts).eq
  pub unix_timestamp_microsecond : IsEquality UnixTimestampMicrosecond
      (unix_timestamp_microsecond_eq.ghosts).eq
  pub unix_timestamp_nanosecond : IsEquality UnixTimestampNanosecond
      (unix_timestamp_nanosecond_eq.ghosts).eq
  pub unix_timestamp : IsEquality UnixTimestamp (unix_timestamp_eq.ghosts).eq
  pub end : IsEquality End (end_eq.ghosts).eq
  pub ignore : IsEquality Ignore (ignore_eq.ghosts).eq
