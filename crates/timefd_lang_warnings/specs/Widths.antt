-- How many digits each component shows, and whether a digit may come first.
use Rattle.std.specs.Prelude.{Bool, true, false, not, if◌then◌else◌}
use Rattle.timefd_lang_component.specs.declared.component.Component.{Component}
use Rattle.timefd_lang_component.specs.declared.component.Component.TheVariants.{Day, MonthShort, MonthLong, MonthNumerical, Ordinal, WeekdayShort, WeekdayLong, WeekdaySunday, WeekdayMonday, WeekNumberIso, WeekNumberSunday, WeekNumberMonday, CalendarYearFullExtendedRange, CalendarYearFullStandardRange, CalendarYearCenturyExtendedRange, CalendarYearCenturyStandardRange, IsoYearFullExtendedRange, IsoYearFullStandardRange, IsoYearCenturyExtendedRange, IsoYearCenturyStandardRange, CalendarYearLastTwo, IsoYearLastTwo, Hour12, Hour24, Minute, Second, OffsetMinute, OffsetSecond, Period, Subsecond, OffsetHour, UnixTimestampSecond, UnixTimestampMillisecond, UnixTimestampMicrosecond, UnixTimestampNanosecond, Ignore, End}
use Rattle.timefd_lang_component.specs.Modern.{modern}
use Rattle.timefd_modifier.specs.declared.enums.Padding.{Padding}
use Rattle.timefd_modifier.specs.declared.enums.SubsecondDigits.{SubsecondDigits}
use Rattle.timefd_lang_warnings.specs.declared.width.Outline.{Outline}
use Rattle.timefd_lang_warnings.specs.declared.width.Width.{Width}

abbrev pub no_number : Outline
no_number = record { width = Width.Same; may_begin_with_digit = false }

abbrev pub digit : Outline
digit = record { width = Width.Same; may_begin_with_digit = true }

-- the width of a number without padding depends on its value
abbrev pub padded : Padding → Width
padded Padding.Zero = Width.Same
padded Padding.Space = Width.Same
padded Padding.None = Width.Varies

abbrev pub number : Padding → Outline
number padding = record { width = padded padding; may_begin_with_digit = true }

abbrev pub signed : Padding → Bool → Outline
signed padding is_mandatory = record { width = padded padding; may_begin_with_digit = not is_mandatory }

-- Years from 10,000 on have a sign and up to two more digits. If every year has a sign, a reader takes up
-- to two more digits of every year.
abbrev pub ranged_by : Width → Bool → Width
ranged_by Width.Same is_mandatory = if is_mandatory then Width.Varies else Width.Wider
ranged_by Width.Wider is_mandatory = if is_mandatory then Width.Varies else Width.Wider
ranged_by Width.Varies is_mandatory = Width.Varies

abbrev pub ranged : Padding → Bool → Width
ranged padding is_mandatory = ranged_by (padded padding) is_mandatory

abbrev pub extended : Padding → Bool → Outline
extended padding is_mandatory = record { width = ranged padding is_mandatory; may_begin_with_digit = not is_mandatory }

abbrev pub unfilled : Bool → Outline
unfilled is_mandatory = record { width = Width.Varies; may_begin_with_digit = not is_mandatory }

abbrev pub fraction : SubsecondDigits → Outline
fraction SubsecondDigits.One = digit
fraction SubsecondDigits.Two = digit
fraction SubsecondDigits.Three = digit
fraction SubsecondDigits.Four = digit
fraction SubsecondDigits.Five = digit
fraction SubsecondDigits.Six = digit
fraction SubsecondDigits.Seven = digit
fraction SubsecondDigits.Eight = digit
fraction SubsecondDigits.Nine = digit
fraction SubsecondDigits.OneOrMore = unfilled false

-- no component is deprecated in its modern form
abbrev pub modern_outline : Component → Outline
modern_outline (Day m) = number m.padding
modern_outline (MonthShort m) = no_number
modern_outline (MonthLong m) = no_number
modern_outline (MonthNumerical m) = number m.padding
modern_outline (Ordinal m) = number m.padding
modern_outline (WeekdayShort m) = no_number
modern_outline (WeekdayLong m) = no_number
modern_outline (WeekdaySunday m) = digit
modern_outline (WeekdayMonday m) = digit
modern_outline (WeekNumberIso m) = number m.padding
modern_outline (WeekNumberSunday m) = number m.padding
modern_outline (WeekNumberMonday m) = number m.padding
modern_outline (CalendarYearFullExtendedRange m) = extended m.padding m.sign_is_mandatory
modern_outline (CalendarYearFullStandardRange m) = signed m.padding m.sign_is_mandatory
modern_outline (CalendarYearCenturyExtendedRange m) = extended m.padding m.sign_is_mandatory
modern_outline (CalendarYearCenturyStandardRange m) = signed m.padding m.sign_is_mandatory
modern_outline (IsoYearFullExtendedRange m) = extended m.padding m.sign_is_mandatory
modern_outline (IsoYearFullStandardRange m) = signed m.padding m.sign_is_mandatory
modern_outline (IsoYearCenturyExtendedRange m) = extended m.padding m.sign_is_mandatory
modern_outline (IsoYearCenturyStandardRange m) = signed m.padding m.sign_is_mandatory
modern_outline (CalendarYearLastTwo m) = number m.padding
modern_outline (IsoYearLastTwo m) = number m.padding
modern_outline (Hour12 m) = number m.padding
modern_outline (Hour24 m) = number m.padding
modern_outline (Minute m) = number m.padding
modern_outline (Period m) = no_number
modern_outline (Second m) = number m.padding
modern_outline (Subsecond m) = fraction m.digits
modern_outline (OffsetHour m) = signed m.padding m.sign_is_mandatory
modern_outline (OffsetMinute m) = number m.padding
modern_outline (OffsetSecond m) = number m.padding
modern_outline (UnixTimestampSecond m) = unfilled m.sign_is_mandatory
modern_outline (UnixTimestampMillisecond m) = unfilled m.sign_is_mandatory
modern_outline (UnixTimestampMicrosecond m) = unfilled m.sign_is_mandatory
modern_outline (UnixTimestampNanosecond m) = unfilled m.sign_is_mandatory
modern_outline (Ignore m) = no_number
modern_outline (End m) = no_number
modern_outline deprecated = no_number

abbrev pub outline_of : Component → Outline
outline_of c = modern_outline (modern c)
