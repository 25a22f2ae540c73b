-- What has to follow the text of a component, so that a reader takes that text and no more.
use Rattle.timefd_lang_component.specs.declared.component.Component.{Component}
use Rattle.timefd_lang_component.specs.declared.component.Component.TheVariants.{Day, MonthShort, MonthLong, MonthNumerical, Ordinal, WeekdayShort, WeekdayLong, WeekdaySunday, WeekdayMonday, WeekNumberIso, WeekNumberSunday, WeekNumberMonday, CalendarYearFullExtendedRange, CalendarYearFullStandardRange, CalendarYearCenturyExtendedRange, CalendarYearCenturyStandardRange, IsoYearFullExtendedRange, IsoYearFullStandardRange, IsoYearCenturyExtendedRange, IsoYearCenturyStandardRange, CalendarYearLastTwo, IsoYearLastTwo, Hour12, Hour24, Minute, Second, OffsetMinute, OffsetSecond, Period, Subsecond, OffsetHour, UnixTimestampSecond, UnixTimestampMillisecond, UnixTimestampMicrosecond, UnixTimestampNanosecond, Ignore, End}
use Rattle.timefd_modifier.specs.declared.enums.Padding.{Padding}
use Rattle.timefd_modifier.specs.declared.enums.SubsecondDigits.{SubsecondDigits}
use Rattle.timefd_lang_warnings.specs.declared.settled.bound.Bound.{Bound}

-- a number that is padded to its width is read whatever follows; after a number without padding, no
-- digit may follow
abbrev pub number_bound : Padding → Bound
number_bound Padding.Zero = Bound.Anything
number_bound Padding.Space = Bound.Anything
number_bound Padding.None = Bound.NoDigit

abbrev pub fraction_bound : SubsecondDigits → Bound
fraction_bound SubsecondDigits.OneOrMore = Bound.NoDigit
fraction_bound SubsecondDigits.One = Bound.Anything
fraction_bound SubsecondDigits.Two = Bound.Anything
fraction_bound SubsecondDigits.Three = Bound.Anything
fraction_bound SubsecondDigits.Four = Bound.Anything
fraction_bound SubsecondDigits.Five = Bound.Anything
fraction_bound SubsecondDigits.Six = Bound.Anything
fraction_bound SubsecondDigits.Seven = Bound.Anything
fraction_bound SubsecondDigits.Eight = Bound.Anything
fraction_bound SubsecondDigits.Nine = Bound.Anything

-- Years and centuries of the extended range may have more digits after a sign. Bytes that are skipped
-- aren't written, so they are never read back.
abbrev pub bound_of : Component → Bound
bound_of (Day m) = number_bound m.padding
bound_of (MonthShort m) = Bound.Anything
bound_of (MonthLong m) = Bound.Anything
bound_of (MonthNumerical m) = number_bound m.padding
bound_of (Ordinal m) = number_bound m.padding
bound_of (WeekdayShort m) = Bound.Anything
bound_of (WeekdayLong m) = Bound.Anything
bound_of (WeekdaySunday m) = Bound.Anything
bound_of (WeekdayMonday m) = Bound.Anything
bound_of (WeekNumberIso m) = number_bound m.padding
bound_of (WeekNumberSunday m) = number_bound m.padding
bound_of (WeekNumberMonday m) = number_bound m.padding
bound_of (CalendarYearFullExtendedRange m) = Bound.NoDigit
bound_of (CalendarYearFullStandardRange m) = number_bound m.padding
bound_of (CalendarYearCenturyExtendedRange m) = Bound.NoDigit
bound_of (CalendarYearCenturyStandardRange m) = number_bound m.padding
bound_of (IsoYearFullExtendedRange m) = Bound.NoDigit
bound_of (IsoYearFullStandardRange m) = number_bound m.padding
bound_of (IsoYearCenturyExtendedRange m) = Bound.NoDigit
bound_of (IsoYearCenturyStandardRange m) = number_bound m.padding
bound_of (CalendarYearLastTwo m) = number_bound m.padding
bound_of (IsoYearLastTwo m) = number_bound m.padding
bound_of (Hour12 m) = number_bound m.padding
bound_of (Hour24 m) = number_bound m.padding
bound_of (Minute m) = number_bound m.padding
bound_of (Second m) = number_bound m.padding
bound_of (OffsetMinute m) = number_bound m.padding
bound_of (OffsetSecond m) = number_bound m.padding
bound_of (Period m) = Bound.Anything
bound_of (Subsecond m) = fraction_bound m.digits
bound_of (OffsetHour m) = number_bound m.padding
bound_of (UnixTimestampSecond m) = Bound.NoDigit
bound_of (UnixTimestampMillisecond m) = Bound.NoDigit
bound_of (UnixTimestampMicrosecond m) = Bound.NoDigit
bound_of (UnixTimestampNanosecond m) = Bound.NoDigit
bound_of (Ignore m) = Bound.Never
bound_of (End m) = Bound.End
bound_of deprecated = Bound.Never
