-- `==` of each modifier is equality.
use Rattle.std.proofs.Common.{refl}
use Rattle.std.specs.Bool.{beq}
use Rattle.timefd_modifier.specs.contracts.enums.PaddingPartialEq.TheImpl as padding_eq
use Rattle.timefd_modifier.specs.contracts.enums.MonthReprPartialEq.TheImpl as month_repr_eq
use Rattle.timefd_modifier.specs.contracts.enums.WeekdayReprPartialEq.TheImpl as weekday_repr_eq
use Rattle.timefd_modifier.specs.contracts.enums.WeekNumberReprPartialEq.TheImpl as week_number_repr_eq
use Rattle.timefd_modifier.specs.contracts.enums.YearReprPartialEq.TheImpl as year_repr_eq
use Rattle.timefd_modifier.specs.contracts.enums.YearRangePartialEq.TheImpl as year_range_eq
use Rattle.timefd_modifier.specs.contracts.enums.SubsecondDigitsPartialEq.TheImpl as subsecond_digits_eq
use Rattle.timefd_modifier.specs.contracts.enums.UnixTimestampPrecisionPartialEq.TheImpl as unix_timestamp_precision_eq
use Rattle.timefd_modifier.specs.contracts.enums.TrailingInputPartialEq.TheImpl as trailing_input_eq
use Rattle.timefd_modifier.specs.declared.day.Day.{Day}
use Rattle.timefd_modifier.specs.declared.day.Ordinal.{Ordinal}
use Rattle.timefd_modifier.specs.declared.day.WeekdayShort.{WeekdayShort}
use Rattle.timefd_modifier.specs.declared.day.WeekdayLong.{WeekdayLong}
use Rattle.timefd_modifier.specs.declared.day.WeekdaySunday.{WeekdaySunday}
use Rattle.timefd_modifier.specs.declared.day.WeekdayMonday.{WeekdayMonday}
use Rattle.timefd_modifier.specs.declared.day.Weekday.{Weekday}
use Rattle.timefd_modifier.specs.declared.week.WeekNumberIso.{WeekNumberIso}
use Rattle.timefd_modifier.specs.declared.week.WeekNumberSunday.{WeekNumberSunday}
use Rattle.timefd_modifier.specs.declared.week.WeekNumberMonday.{WeekNumberMonday}
use Rattle.timefd_modifier.specs.declared.week.WeekNumber.{WeekNumber}
use Rattle.timefd_modifier.specs.declared.month.MonthShort.{MonthShort}
use Rattle.timefd_modifier.specs.declared.month.MonthLong.{MonthLong}
use Rattle.timefd_modifier.specs.declared.month.MonthNumerical.{MonthNumerical}
use Rattle.timefd_modifier.specs.declared.month.Month.{Month}
use Rattle.timefd_modifier.specs.declared.calendar_year.CalendarYearFullExtendedRange.{CalendarYearFullExtendedRange}
use Rattle.timefd_modifier.specs.declared.calendar_year.CalendarYearFullStandardRange.{CalendarYearFullStandardRange}
use Rattle.timefd_modifier.specs.declared.calendar_year.CalendarYearCenturyExtendedRange.{CalendarYearCenturyExtendedRange}
use Rattle.timefd_modifier.specs.declared.calendar_year.CalendarYearCenturyStandardRange.{CalendarYearCenturyStandardRange}
use Rattle.timefd_modifier.specs.declared.calendar_year.CalendarYearLastTwo.{CalendarYearLastTwo}
use Rattle.timefd_modifier.specs.declared.iso_year.IsoYearFullExtendedRange.{IsoYearFullExtendedRange}
use Rattle.timefd_modifier.specs.declared.iso_year.IsoYearFullStandardRange.{IsoYearFullStandardRange}
use Rattle.timefd_modifier.specs.declared.iso_year.IsoYearCenturyExtendedRange.{IsoYearCenturyExtendedRange}
use Rattle.timefd_modifier.specs.declared.iso_year.IsoYearCenturyStandardRange.{IsoYearCenturyStandardRange}
use Rattle.timefd_modifier.specs.declared.iso_year.IsoYearLastTwo.{IsoYearLastTwo}
use Rattle.timefd_modifier.specs.declared.year.Year.{Year}
use Rattle.timefd_modifier.specs.declared.clock.Hour12.{Hour12}
use Rattle.timefd_modifier.specs.declared.clock.Hour24.{Hour24}
use Rattle.timefd_modifier.specs.declared.clock.Hour.{Hour}
use Rattle.timefd_modifier.specs.declared.clock.Minute.{Minute}
use Rattle.timefd_modifier.specs.declared.clock.Period.{Period}
use Rattle.timefd_modifier.specs.declared.clock.Second.{Second}
use Rattle.timefd_modifier.specs.declared.clock.Subsecond.{Subsecond}
use Rattle.timefd_modifier.specs.declared.offset.OffsetHour.{OffsetHour}
use Rattle.timefd_modifier.specs.declared.offset.OffsetMinute.{OffsetMinute}
use Rattle.timefd_modifier.specs.declared.offset.OffsetSecond.{OffsetSecond}
use Rattle.timefd_modifier.specs.declared.timestamp.UnixTimestampSecond.{UnixTimestampSecond}
use Rattle.timefd_modifier.specs.declared.timestamp.UnixTimestampMillisecond.{UnixTimestampMillisecond}
use Rattle.timefd_modifier.specs.declared.timestamp.UnixTimestampMicrosecond.{UnixTimestampMicrosecond}
use Rattle.timefd_modifier.specs.declared.timestamp.UnixTimestampNanosecond.{UnixTimestampNanosecond}
use Rattle.timefd_modifier.specs.declared.timestamp.UnixTimestamp.{UnixTimestamp}
use Rattle.timefd_modifier.specs.declared.input.End.{End}
use Rattle.timefd_modifier.specs.declared.input.Ignore.{Ignore}
use Rattle.timefd_modifier.specs.Equality.{ModifierEquality}
use Rattle.timefd_modifier.proofs.FieldTests.{one, two, three, five}
use Rattle.timefd_modifier.proofs.EnumTests.{padding_is, month_repr_is, weekday_repr_is, week_number_repr_is, year_repr_is, year_range_is, subsecond_digits_is, unix_timestamp_precision_is, trailing_input_is, bool_is, same_count, count_is}

pub modifier_equality_law : ModifierEquality
modifier_equality_law = record {
  padding = padding_is;
  month_repr = month_repr_is;
  weekday_repr = weekday_repr_is;
  week_number_repr = week_number_repr_is;
  year_repr = year_repr_is;
  year_range = year_range_is;
  subsecond_digits = subsecond_digits_is;
  unix_timestamp_precision = unix_timestamp_precision_is;
  trailing_input = trailing_input_is;
  day = one {S = Day} (padding_eq.ghosts).eq (λ s. s.padding) (λ x. record { padding = x })
      (λ s. refl) padding_is;
  ordinal = one {S = Ordinal} (padding_eq.ghosts).eq (λ s. s.padding) (λ x. record { padding = x })
      (λ s. refl) padding_is;
  weekday_short = one {S = WeekdayShort} beq (λ s. s.case_sensitive)
      (λ x. record { case_sensitive = x }) (λ s. refl) bool_is;
  weekday_long = one {S = WeekdayLong} beq (λ s. s.case_sensitive)
      (λ x. record { case_sensitive = x }) (λ s. refl) bool_is;
  weekday_sunday = one {S = WeekdaySunday} beq (λ s. s.one_indexed)
      (λ x. record { one_indexed = x }) (λ s. refl) bool_is;
  weekday_monday = one {S = WeekdayMonday} beq (λ s. s.one_indexed)
      (λ x. record { one_indexed = x }) (λ s. refl) bool_is;
  weekday =
      three {S = Weekday} (weekday_repr_eq.ghosts).eq beq beq (λ s. s.repr) (λ s. s.one_indexed)
      (λ s. s.case_sensitive)
      (λ x y z. record { repr = x; one_indexed = y; case_sensitive = z }) (λ s. refl)
      weekday_repr_is bool_is bool_is;
  week_number_iso = one {S = WeekNumberIso} (padding_eq.ghosts).eq (λ s. s.padding)
      (λ x. record { padding = x }) (λ s. refl) padding_is;
  week_number_sunday = one {S = WeekNumberSunday} (padding_eq.ghosts).eq (λ s. s.padding)
      (λ x. record { padding = x }) (λ s. refl) padding_is;
  week_number_monday = one {S = WeekNumberMonday} (padding_eq.ghosts).eq (λ s. s.padding)
      (λ x. record { padding = x }) (λ s. refl) padding_is;
  week_number =
      two {S = WeekNumber} (padding_eq.ghosts).eq (week_number_repr_eq.ghosts).eq (λ s. s.padding)
      (λ s. s.repr)
      (λ x y. record { padding = x; repr = y }) (λ s. refl) padding_is week_number_repr_is;
  month_short = one {S = MonthShort} beq (λ s. s.case_sensitive)
      (λ x. record { case_sensitive = x }) (λ s. refl) bool_is;
  month_long = one {S = MonthLong} beq (λ s. s.case_sensitive) (λ x. record { case_sensitive = x })
      (λ s. refl) bool_is;
  month_numerical = one {S = MonthNumerical} (padding_eq.ghosts).eq (λ s. s.padding)
      (λ x. record { padding = x }) (λ s. refl) padding_is;
  month =
      three {S = Month} (padding_eq.ghosts).eq (month_repr_eq.ghosts).eq beq (λ s. s.padding)
      (λ s. s.repr) (λ s. s.case_sensitive)
      (λ x y z. record { padding = x; repr = y; case_sensitive = z }) (λ s. refl) padding_is
      month_repr_is bool_is;
  calendar_year_full_extended_range =
      two {S = CalendarYearFullExtendedRange} (padding_eq.ghosts).eq beq (λ s. s.padding)
      (λ s. s.sign_is_mandatory)
      (λ x y. record { padding = x; sign_is_mandatory = y }) (λ s. refl) padding_is bool_is;
  calendar_year_full_standard_range =
      two {S = CalendarYearFullStandardRange} (padding_eq.ghosts).eq beq (λ s. s.padding)
      (λ s. s.sign_is_mandatory)
      (λ x y. record { padding = x; sign_is_mandatory = y }) (λ s. refl) padding_is bool_is;
  calendar_year_century_extended_range =
      two {S = CalendarYearCenturyExtendedRange} (padding_eq.ghosts).eq beq (λ s. s.padding)
      (λ s. s.sign_is_mandatory)
      (λ x y. record { padding = x; sign_is_mandatory = y }) (λ s. refl) padding_is bool_is;
  calendar_year_century_standard_range =
      two {S = CalendarYearCenturyStandardRange} (padding_eq.ghosts).eq beq (λ s. s.padding)
      (λ s. s.sign_is_mandatory)
      (λ x y. record { padding = x; sign_is_mandatory = y }) (λ s. refl) padding_is bool_is;
  calendar_year_last_two = one {S = CalendarYearLastTwo} (padding_eq.ghosts).eq (λ s. s.padding)
      (λ x. record { padding = x }) (λ s. refl) padding_is;
  iso_year_full_extended_range =
      two {S = IsoYearFullExtendedRange} (padding_eq.ghosts).eq beq (λ s. s.padding)
      (λ s. s.sign_is_mandatory)
      (λ x y. record { padding = x; sign_is_mandatory = y }) (λ s. refl) padding_is bool_is;
  iso_year_full_standard_range =
      two {S = IsoYearFullStandardRange} (padding_eq.ghosts).eq beq (λ s. s.padding)
      (λ s. s.sign_is_mandatory)
      (λ x y. record { padding = x; sign_is_mandatory = y }) (λ s. refl) padding_is bool_is;
  iso_year_century_extended_range =
      two {S = IsoYearCenturyExtendedRange} (padding_eq.ghosts).eq beq (λ s. s.padding)
      (λ s. s.sign_is_mandatory)
      (λ x y. record { padding = x; sign_is_mandatory = y }) (λ s. refl) padding_is bool_is;
  iso_year_century_standard_range =
      two {S = IsoYearCenturyStandardRange} (padding_eq.ghosts).eq beq (λ s. s.padding)
      (λ s. s.sign_is_mandatory)
      (λ x y. record { padding = x; sign_is_mandatory = y }) (λ s. refl) padding_is bool_is;
  iso_year_last_two = one {S = IsoYearLastTwo} (padding_eq.ghosts).eq (λ s. s.padding)
      (λ x. record { padding = x }) (λ s. refl) padding_is;
  year =
      five {S = Year} (padding_eq.ghosts).eq (year_repr_eq.ghosts).eq (year_range_eq.ghosts).eq beq
      beq
      (λ s. s.padding) (λ s. s.repr) (λ s. s.range) (λ s. s.iso_week_based)
      (λ s. s.sign_is_mandatory)
      (λ v w x y z. record {
        padding = v;
        repr = w;
        range = x;
        iso_week_based =
            y;
        sign_is_mandatory = z;
      }) (λ s. refl)
      padding_is year_repr_is year_range_is bool_is bool_is;
  hour12 = one {S = Hour12} (padding_eq.ghosts).eq (λ s. s.padding) (λ x. record { padding = x })
      (λ s. refl) padding_is;
  hour24 = one {S = Hour24} (padding_eq.ghosts).eq (λ s. s.padding) (λ x. record { padding = x })
      (λ s. refl) padding_is;
  hour =
      two {S = Hour} (padding_eq.ghosts).eq beq (λ s. s.padding) (λ s. s.is_12_hour_clock)
      (λ x y. record { padding = x; is_12_hour_clock = y }) (λ s. refl) padding_is bool_is;
  minute = one {S = Minute} (padding_eq.ghosts).eq (λ s. s.padding) (λ x. record { padding = x })
      (λ s. refl) padding_is;
  period =
      two {S = Period} beq beq (λ s. s.is_uppercase) (λ s. s.case_sensitive)
      (λ x y. record { is_uppercase = x; case_sensitive = y }) (λ s. refl) bool_is bool_is;
  second = one {S = Second} (padding_eq.ghosts).eq (λ s. s.padding) (λ x. record { padding = x })
      (λ s. refl) padding_is;
  subsecond = one {S = Subsecond} (subsecond_digits_eq.ghosts).eq (λ s. s.digits)
      (λ x. record { digits = x }) (λ s. refl) subsecond_digits_is;
  offset_hour =
      two {S = OffsetHour} beq (padding_eq.ghosts).eq (λ s. s.sign_is_mandatory) (λ s. s.padding)
      (λ x y. record { sign_is_mandatory = x; padding = y }) (λ s. refl) bool_is padding_is;
  offset_minute = one {S = OffsetMinute} (padding_eq.ghosts).eq (λ s. s.padding)
      (λ x. record { padding = x }) (λ s. refl) padding_is;
  offset_second = one {S = OffsetSecond} (padding_eq.ghosts).eq (λ s. s.padding)
      (λ x. record { padding = x }) (λ s. refl) padding_is;
  unix_timestamp_second = one {S = UnixTimestampSecond} beq (λ s. s.sign_is_mandatory)
      (λ x. record { sign_is_mandatory = x }) (λ s. refl) bool_is;
  unix_timestamp_millisecond =
      one {S = UnixTimestampMillisecond} beq (λ s. s.sign_is_mandatory)
      (λ x. record { sign_is_mandatory = x }) (λ s. refl) bool_is;
  unix_timestamp_microsecond =
      one {S = UnixTimestampMicrosecond} beq (λ s. s.sign_is_mandatory)
      (λ x. record { sign_is_mandatory = x }) (λ s. refl) bool_is;
  unix_timestamp_nanosecond =
      one {S = UnixTimestampNanosecond} beq (λ s. s.sign_is_mandatory)
      (λ x. record { sign_is_mandatory = x }) (λ s. refl) bool_is;
  unix_timestamp =
      two {S = UnixTimestamp} (unix_timestamp_precision_eq.ghosts).eq beq (λ s. s.precision)
      (λ s. s.sign_is_mandatory)
      (λ x y. record { precision = x; sign_is_mandatory = y }) (λ s. refl)
      unix_timestamp_precision_is bool_is;
  end = one {S = End} (trailing_input_eq.ghosts).eq (λ s. s.trailing_input)
      (λ x. record { trailing_input = x }) (λ s. refl) trailing_input_is;
  ignore = one {S = Ignore} same_count (λ s. s.count) (λ x. record { count = x }) (λ s. refl)
      count_is;
}
