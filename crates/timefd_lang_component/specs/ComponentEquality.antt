-- `==` of components is equality, since `==` of the modifiers of each is.
use Rattle.std.specs.Prelude.{Bool, true, ◌≡◌, refl}
use Rattle.std.proofs.Common.{ap}
use Rattle.std.proofs.lemmas.Bool.{false≢true}
use Rattle.timefd_modifier.specs.Equality.{IsEquality}
use Rattle.timefd_modifier.proofs.ModifierTests.{modifier_equality_law as modifiers}
use Rattle.timefd_lang_component.specs.declared.component.Component.{Component}
use Rattle.timefd_lang_component.specs.declared.component.Component.TheVariants.{Day, MonthShort, MonthLong, MonthNumerical, Ordinal, WeekdayShort, WeekdayLong, WeekdaySunday, WeekdayMonday, WeekNumberIso, WeekNumberSunday, WeekNumberMonday, CalendarYearFullExtendedRange, CalendarYearFullStandardRange, CalendarYearCenturyExtendedRange, CalendarYearCenturyStandardRange, IsoYearFullExtendedRange, IsoYearFullStandardRange, IsoYearCenturyExtendedRange, IsoYearCenturyStandardRange, CalendarYearLastTwo, IsoYearLastTwo, Hour12, Hour24, Minute, Period, Second, Subsecond, OffsetHour, OffsetMinute, OffsetSecond, Ignore, UnixTimestampSecond, UnixTimestampMillisecond, UnixTimestampMicrosecond, UnixTimestampNanosecond, End, Month, Weekday, WeekNumber, Hour, UnixTimestamp, Year}
use Rattle.timefd_lang_component.specs.Equality.{same_component}

sound : {A : Type 0} {same : A → A → Bool} → IsEquality A same → (a b : A) → same a b ≡ true → a ≡ b
sound is a b e = (is.exact a b).0 e

reflexive : {A : Type 0} {same : A → A → Bool} → IsEquality A same → (a : A) → same a a ≡ true
reflexive is a = (is.exact a a).1 refl

pub component_sound : (a b : Component) → same_component a b ≡ true → a ≡ b
component_sound (Day a) (Day b) e = ap Day (sound modifiers.day a b e)
component_sound (MonthShort a) (MonthShort b) e = ap MonthShort (sound modifiers.month_short a b e)
component_sound (MonthLong a) (MonthLong b) e = ap MonthLong (sound modifiers.month_long a b e)
component_sound (MonthNumerical a) (MonthNumerical b) e =
    ap MonthNumerical (sound modifiers.month_numerical a b e)
component_sound (Ordinal a) (Ordinal b) e = ap Ordinal (sound modifiers.ordinal a b e)
component_sound (WeekdayShort a) (WeekdayShort b) e =
    ap WeekdayShort (sound modifiers.weekday_short a b e)
component_sound (WeekdayLong a) (WeekdayLong b) e =
    ap WeekdayLong (sound modifiers.weekday_long a b e)
component_sound (WeekdaySunday a) (WeekdaySunday b) e =
    ap WeekdaySunday (sound modifiers.weekday_sunday a b e)
component_sound (WeekdayMonday a) (WeekdayMonday b) e =
    ap WeekdayMonday (sound modifiers.weekday_monday a b e)
component_sound (WeekNumberIso a) (WeekNumberIso b) e =
    ap WeekNumberIso (sound modifiers.week_number_iso a b e)
component_sound (WeekNumberSunday a) (WeekNumberSunday b) e =
    ap WeekNumberSunday (sound modifiers.week_number_sunday a b e)
component_sound (WeekNumberMonday a) (WeekNumberMonday b) e =
    ap WeekNumberMonday (sound modifiers.week_number_monday a b e)
component_sound (CalendarYearFullExtendedRange a) (CalendarYearFullExtendedRange b) e =
    ap CalendarYearFullExtendedRange (sound modifiers.calendar_year_full_extended_range a b e)
component_sound (CalendarYearFullStandardRange a) (CalendarYearFullStandardRange b) e =
    ap CalendarYearFullStandardRange (sound modifiers.calendar_year_full_standard_range a b e)
component_sound (CalendarYearCenturyExtendedRange a) (CalendarYearCenturyExtendedRange b) e =
    ap CalendarYearCenturyExtendedRange (sound modifiers.calendar_year_century_extended_range a b e)
component_sound (CalendarYearCenturyStandardRange a) (CalendarYearCenturyStandardRange b) e =
    ap CalendarYearCenturyStandardRange (sound modifiers.calendar_year_century_standard_range a b e)
component_sound (IsoYearFullExtendedRange a) (IsoYearFullExtendedRange b) e =
    ap IsoYearFullExtendedRange (sound modifiers.iso_year_full_extended_range a b e)
component_sound (IsoYearFullStandardRange a) (IsoYearFullStandardRange b) e =
    ap IsoYearFullStandardRange (sound modifiers.iso_year_full_standard_range a b e)
component_sound (IsoYearCenturyExtendedRange a) (IsoYearCenturyExtendedRange b) e =
    ap IsoYearCenturyExtendedRange (sound modifiers.iso_year_century_extended_range a b e)
component_sound (IsoYearCenturyStandardRange a) (IsoYearCenturyStandardRange b) e =
    ap IsoYearCenturyStandardRange (sound modifiers.iso_year_century_standard_range a b e)
component_sound (CalendarYearLastTwo a) (CalendarYearLastTwo b) e =
    ap CalendarYearLastTwo (sound modifiers.calendar_year_last_two a b e)
component_sound (IsoYearLastTwo a) (IsoYearLastTwo b) e =
    ap IsoYearLastTwo (sound modifiers.iso_year_last_two a b e)
component_sound (Hour12 a) (Hour12 b) e = ap Hour12 (sound modifiers.hour12 a b e)
component_sound (Hour24 a) (Hour24 b) e = ap Hour24 (sound modifiers.hour24 a b e)
component_sound (Minute a) (Minute b) e = ap Minute (sound modifiers.minute a b e)
component_sound (Period a) (Period b) e = ap Period (sound modifiers.period a b e)
component_sound (Second a) (Second b) e = ap Second (sound modifiers.second a b e)
component_sound (Subsecond a) (Subsecond b) e = ap Subsecond (sound modifiers.subsecond a b e)
component_sound (OffsetHour a) (OffsetHour b) e = ap OffsetHour (sound modifiers.offset_hour a b e)
component_sound (OffsetMinute a) (OffsetMinute b) e =
    ap OffsetMinute (sound modifiers.offset_minute a b e)
component_sound (OffsetSecond a) (OffsetSecond b) e =
    ap OffsetSecond (sound modifiers.offset_second a b e)
component_sound (Ignore a) (Ignore b) e = ap Ignore (sound modifiers.ignore a b e)
component_sound (UnixTimestampSecond a) (UnixTimestampSecond b) e =
    ap UnixTimestampSecond (sound modifiers.unix_timestamp_second a b e)
component_sound (UnixTimestampMillisecond a) (UnixTimestampMillisecond b) e =
    ap UnixTimestampMillisecond (sound modifiers.unix_timestamp_millisecond a b e)
component_sound (UnixTimestampMicrosecond a) (UnixTimestampMicrosecond b) e =
    ap UnixTimestampMicrosecond (sound modifiers.unix_timestamp_microsecond a b e)
component_sound (UnixTimestampNanosecond a) (UnixTimestampNanosecond b) e =
    ap UnixTimestampNanosecond (sound modifiers.unix_timestamp_nanosecond a b e)
component_sound (End a) (End b) e = ap End (sound modifiers.end a b e)
component_sound (Month a) (Month b) e = ap Month (sound modifiers.month a b e)
component_sound (Weekday a) (Weekday b) e = ap Weekday (sound modifiers.weekday a b e)
component_sound (WeekNumber a) (WeekNumber b) e = ap WeekNumber (sound modifiers.week_number a b e)
component_sound (Hour a) (Hour b) e = ap Hour (sound modifiers.hour a b e)
component_sound (UnixTimestamp a) (UnixTimestamp b) e =
    ap UnixTimestamp (sound modifiers.unix_timestamp a b e)
component_sound (Year a) (Year b) e = ap Year (sound modifiers.year a b e)
component_sound _ _ e = absurd (false≢true e)

pub component_same : (a : Component) → same_component a a ≡ true
component_same (Day a) = reflexive modifiers.day a
component_same (MonthShort a) = reflexive modifiers.month_short a
component_same (MonthLong a) = reflexive modifiers.month_long a
component_same (MonthNumerical a) = reflexive modifiers.month_numerical a
component_same (Ordinal a) = reflexive modifiers.ordinal a
component_same (WeekdayShort a) = reflexive modifiers.weekday_short a
component_same (WeekdayLong a) = reflexive modifiers.weekday_long a
component_same (WeekdaySunday a) = reflexive modifiers.weekday_sunday a
component_same (WeekdayMonday a) = reflexive modifiers.weekday_monday a
component_same (WeekNumberIso a) = reflexive modifiers.week_number_iso a
component_same (WeekNumberSunday a) = reflexive modifiers.week_number_sunday a
component_same (WeekNumberMonday a) = reflexive modifiers.week_number_monday a
component_same (CalendarYearFullExtendedRange a) =
    reflexive modifiers.calendar_year_full_extended_range a
component_same (CalendarYearFullStandardRange a) =
    reflexive modifiers.calendar_year_full_standard_range a
component_same (CalendarYearCenturyExtendedRange a) =
    reflexive modifiers.calendar_year_century_extended_range a
component_same (CalendarYearCenturyStandardRange a) =
    reflexive modifiers.calendar_year_century_standard_range a
component_same (IsoYearFullExtendedRange a) = reflexive modifiers.iso_year_full_extended_range a
component_same (IsoYearFullStandardRange a) = reflexive modifiers.iso_year_full_standard_range a
component_same (IsoYearCenturyExtendedRange a) = reflexive modifiers.iso_year_century_extended_range a
component_same (IsoYearCenturyStandardRange a) = reflexive modifiers.iso_year_century_standard_range a
component_same (CalendarYearLastTwo a) = reflexive modifiers.calendar_year_last_two a
component_same (IsoYearLastTwo a) = reflexive modifiers.iso_year_last_two a
component_same (Hour12 a) = reflexive modifiers.hour12 a
component_same (Hour24 a) = reflexive modifiers.hour24 a
component_same (Minute a) = reflexive modifiers.minute a
component_same (Period a) = reflexive modifiers.period a
component_same (Second a) = reflexive modifiers.second a
component_same (Subsecond a) = reflexive modifiers.subsecond a
component_same (OffsetHour a) = reflexive modifiers.offset_hour a
component_same (OffsetMinute a) = reflexive modifiers.offset_minute a
component_same (OffsetSecond a) = reflexive modifiers.offset_second a
component_same (Ignore a) = reflexive modifiers.ignore a
component_same (UnixTimestampSecond a) = reflexive modifiers.unix_timestamp_second a
component_same (UnixTimestampMillisecond a) = reflexive modifiers.unix_timestamp_millisecond a
component_same (UnixTimestampMicrosecond a) = reflexive modifiers.unix_timestamp_microsecond a
component_same (UnixTimestampNanosecond a) = reflexive modifiers.unix_timestamp_nanosecond a
component_same (End a) = reflexive modifiers.end a
component_same (Month a) = reflexive modifiers.month a
component_same (Weekday a) = reflexive modifiers.weekday a
component_same (WeekNumber a) = reflexive modifiers.week_number a
component_same (Hour a) = reflexive modifiers.hour a
component_same (UnixTimestamp a) = reflexive modifiers.unix_timestamp a
component_same (Year a) = reflexive modifiers.year a
