-- The numbers of nodes, as `examples/timefd.h` has them.
use Rattle.std.specs.Prelude.{ℕ, ◌≡◌, true, false}
use Rattle.timefd_modifier.specs.declared.calendar_year.CalendarYearCenturyExtendedRange.{CalendarYearCenturyExtendedRange}
use Rattle.timefd_modifier.specs.declared.calendar_year.CalendarYearCenturyStandardRange.{CalendarYearCenturyStandardRange}
use Rattle.timefd_modifier.specs.declared.calendar_year.CalendarYearFullExtendedRange.{CalendarYearFullExtendedRange}
use Rattle.timefd_modifier.specs.declared.calendar_year.CalendarYearFullStandardRange.{CalendarYearFullStandardRange}
use Rattle.timefd_modifier.specs.declared.calendar_year.CalendarYearLastTwo.{CalendarYearLastTwo}
use Rattle.timefd_modifier.specs.declared.clock.Hour12.{Hour12}
use Rattle.timefd_modifier.specs.declared.clock.Hour24.{Hour24}
use Rattle.timefd_modifier.specs.declared.clock.Minute.{Minute}
use Rattle.timefd_modifier.specs.declared.clock.Period.{Period}
use Rattle.timefd_modifier.specs.declared.clock.Second.{Second}
use Rattle.timefd_modifier.specs.declared.clock.Subsecond.{Subsecond}
use Rattle.timefd_modifier.specs.declared.day.Day.{Day}
use Rattle.timefd_modifier.specs.declared.day.Ordinal.{Ordinal}
use Rattle.timefd_modifier.specs.declared.day.WeekdayLong.{WeekdayLong}
use Rattle.timefd_modifier.specs.declared.day.WeekdayMonday.{WeekdayMonday}
use Rattle.timefd_modifier.specs.declared.day.WeekdayShort.{WeekdayShort}
use Rattle.timefd_modifier.specs.declared.day.WeekdaySunday.{WeekdaySunday}
use Rattle.timefd_modifier.specs.declared.input.End.{End}
use Rattle.timefd_modifier.specs.declared.input.Ignore.{Ignore}
use Rattle.timefd_modifier.specs.declared.iso_year.IsoYearCenturyExtendedRange.{IsoYearCenturyExtendedRange}
use Rattle.timefd_modifier.specs.declared.iso_year.IsoYearCenturyStandardRange.{IsoYearCenturyStandardRange}
use Rattle.timefd_modifier.specs.declared.iso_year.IsoYearFullExtendedRange.{IsoYearFullExtendedRange}
use Rattle.timefd_modifier.specs.declared.iso_year.IsoYearFullStandardRange.{IsoYearFullStandardRange}
use Rattle.timefd_modifier.specs.declared.iso_year.IsoYearLastTwo.{IsoYearLastTwo}
use Rattle.timefd_modifier.specs.declared.month.MonthLong.{MonthLong}
use Rattle.timefd_modifier.specs.declared.month.MonthNumerical.{MonthNumerical}
use Rattle.timefd_modifier.specs.declared.month.MonthShort.{MonthShort}
use Rattle.timefd_modifier.specs.declared.offset.OffsetHour.{OffsetHour}
use Rattle.timefd_modifier.specs.declared.offset.OffsetMinute.{OffsetMinute}
use Rattle.timefd_modifier.specs.declared.offset.OffsetSecond.{OffsetSecond}
use Rattle.timefd_modifier.specs.declared.timestamp.UnixTimestampMicrosecond.{UnixTimestampMicrosecond}
use Rattle.timefd_modifier.specs.declared.timestamp.UnixTimestampMillisecond.{UnixTimestampMillisecond}
use Rattle.timefd_modifier.specs.declared.timestamp.UnixTimestampNanosecond.{UnixTimestampNanosecond}
use Rattle.timefd_modifier.specs.declared.timestamp.UnixTimestampSecond.{UnixTimestampSecond}
use Rattle.timefd_modifier.specs.declared.week.WeekNumberIso.{WeekNumberIso}
use Rattle.timefd_modifier.specs.declared.week.WeekNumberMonday.{WeekNumberMonday}
use Rattle.timefd_modifier.specs.declared.week.WeekNumberSunday.{WeekNumberSunday}
use Rattle.timefd_modifier.specs.declared.enums.Padding.TheVariants as paddings
use Rattle.timefd_modifier.specs.declared.enums.SubsecondDigits.TheVariants as digits
use Rattle.timefd_modifier.specs.declared.enums.TrailingInput.TheVariants as inputs
use Rattle.timefd_lang_component.specs.declared.component.Component.{Component}
use Rattle.timefd_lang_component.specs.declared.component.Component.TheVariants as components
use Rattle.timefd_c_nodes.specs.declared.node.TheConstants.{LITERAL, COMPONENT, COMPOUND, OPTIONAL, FIRST, COMPOSITE}
use Rattle.timefd_c_nodes.specs.Encoding.{component_table, digits_number, flag_number, padding_number, trailing_input_number}

-- what a node is
pub record KindNumbers : Type 0 where
  pub literal : LITERAL ≡ 1
  pub component : COMPONENT ≡ 2
  pub compound : COMPOUND ≡ 3
  pub optional : OPTIONAL ≡ 4
  pub first : FIRST ≡ 5
  pub composite : COMPOSITE ≡ 6

-- the number of a component
abbrev pub number_of : Component → ℕ
number_of c = (component_table c).component

-- Each component has its number, whatever its modifiers are.
pub record ComponentNumbers : Type 0 where
  pub day : (m : Day) → number_of (components.Day m) ≡ 1
  pub month_short : (m : MonthShort) → number_of (components.MonthShort m) ≡ 2
  pub month_long : (m : MonthLong) → number_of (components.MonthLong m) ≡ 3
  pub month_numerical : (m : MonthNumerical) → number_of (components.MonthNumerical m) ≡ 4
  pub ordinal : (m : Ordinal) → number_of (components.Ordinal m) ≡ 5
  pub weekday_short : (m : WeekdayShort) → number_of (components.WeekdayShort m) ≡ 6
  pub weekday_long : (m : WeekdayLong) → number_of (components.WeekdayLong m) ≡ 7
  pub weekday_sunday : (m : WeekdaySunday) → number_of (components.WeekdaySunday m) ≡ 8
  pub weekday_monday : (m : WeekdayMonday) → number_of (components.WeekdayMonday m) ≡ 9
  pub week_number_iso : (m : WeekNumberIso) → number_of (components.WeekNumberIso m) ≡ 10
  pub week_number_sunday : (m : WeekNumberSunday) → number_of (components.WeekNumberSunday m) ≡ 11
  pub week_number_monday : (m : WeekNumberMonday) → number_of (components.WeekNumberMonday m) ≡ 12
  pub calendar_year_full_extended_range : (m : CalendarYearFullExtendedRange) → number_of (components.CalendarYearFullExtendedRange m) ≡ 13
  pub calendar_year_full_standard_range : (m : CalendarYearFullStandardRange) → number_of (components.CalendarYearFullStandardRange m) ≡ 14
  pub calendar_year_century_extended_range : (m : CalendarYearCenturyExtendedRange) → number_of (components.CalendarYearCenturyExtendedRange m) ≡ 15
  pub calendar_year_century_standard_range : (m : CalendarYearCenturyStandardRange) → number_of (components.CalendarYearCenturyStandardRange m) ≡ 16
  pub iso_year_full_extended_range : (m : IsoYearFullExtendedRange) → number_of (components.IsoYearFullExtendedRange m) ≡ 17
  pub iso_year_full_standard_range : (m : IsoYearFullStandardRange) → number_of (components.IsoYearFullStandardRange m) ≡ 18
  pub iso_year_century_extended_range : (m : IsoYearCenturyExtendedRange) → number_of (components.IsoYearCenturyExtendedRange m) ≡ 19
  pub iso_year_century_standard_range : (m : IsoYearCenturyStandardRange) → number_of (components.IsoYearCenturyStandardRange m) ≡ 20
  pub calendar_year_last_two : (m : CalendarYearLastTwo) → number_of (components.CalendarYearLastTwo m) ≡ 21
  pub iso_year_last_two : (m : IsoYearLastTwo) → number_of (components.IsoYearLastTwo m) ≡ 22
  pub hour_12 : (m : Hour12) → number_of (components.Hour12 m) ≡ 23
  pub hour_24 : (m : Hour24) → number_of (components.Hour24 m) ≡ 24
  pub minute : (m : Minute) → number_of (components.Minute m) ≡ 25
  pub period : (m : Period) → number_of (components.Period m) ≡ 26
  pub second : (m : Second) → number_of (components.Second m) ≡ 27
  pub subsecond : (m : Subsecond) → number_of (components.Subsecond m) ≡ 28
  pub offset_hour : (m : OffsetHour) → number_of (components.OffsetHour m) ≡ 29
  pub offset_minute : (m : OffsetMinute) → number_of (components.OffsetMinute m) ≡ 30
  pub offset_second : (m : OffsetSecond) → number_of (components.OffsetSecond m) ≡ 31
  pub ignore : (m : Ignore) → number_of (components.Ignore m) ≡ 32
  pub unix_timestamp_second : (m : UnixTimestampSecond) → number_of (components.UnixTimestampSecond m) ≡ 33
  pub unix_timestamp_millisecond : (m : UnixTimestampMillisecond) → number_of (components.UnixTimestampMillisecond m) ≡ 34
  pub unix_timestamp_microsecond : (m : UnixTimestampMicrosecond) → number_of (components.UnixTimestampMicrosecond m) ≡ 35
  pub unix_timestamp_nanosecond : (m : UnixTimestampNanosecond) → number_of (components.UnixTimestampNanosecond m) ≡ 36
  pub end : (m : End) → number_of (components.End m) ≡ 37

-- the values of modifiers
pub record ModifierNumbers : Type 0 where
  pub space : padding_number paddings.Space ≡ 1
  pub zero : padding_number paddings.Zero ≡ 2
  pub none : padding_number paddings.None ≡ 3
  pub off : flag_number false ≡ 1
  pub on : flag_number true ≡ 2
  pub one : digits_number digits.One ≡ 1
  pub two : digits_number digits.Two ≡ 2
  pub three : digits_number digits.Three ≡ 3
  pub four : digits_number digits.Four ≡ 4
  pub five : digits_number digits.Five ≡ 5
  pub six : digits_number digits.Six ≡ 6
  pub seven : digits_number digits.Seven ≡ 7
  pub eight : digits_number digits.Eight ≡ 8
  pub nine : digits_number digits.Nine ≡ 9
  pub one_or_more : digits_number digits.OneOrMore ≡ 10
  pub prohibit : trailing_input_number inputs.Prohibit ≡ 1
  pub discard : trailing_input_number inputs.Discard ≡ 2
