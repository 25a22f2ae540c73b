-- What a component shows of a moment, and the text of that field.
use Rattle.std.specs.Prelude.{ℕ, ◌+◌, ◌-◌, ◌/◌, ◌%◌, ◌≤◌, ◌++◌, Bool, true, false, ◌||◌, nat_le, if◌then◌else◌, List, [], codes, get_or, Option, Some, None, Result, Ok, Err, ⊤}
use Rattle.timefd_modifier.specs.declared.enums.Padding.{Padding}
use Rattle.timefd_lang_component.specs.declared.component.Component.{Component}
use Rattle.timefd_lang_component.specs.declared.component.Component.TheVariants.{Day, MonthShort, MonthLong, MonthNumerical, Ordinal, WeekdayShort, WeekdayLong, WeekdaySunday, WeekdayMonday, WeekNumberIso, WeekNumberSunday, WeekNumberMonday, CalendarYearFullExtendedRange, CalendarYearFullStandardRange, CalendarYearCenturyExtendedRange, CalendarYearCenturyStandardRange, IsoYearFullExtendedRange, IsoYearFullStandardRange, IsoYearCenturyExtendedRange, IsoYearCenturyStandardRange, CalendarYearLastTwo, IsoYearLastTwo, Hour12, Hour24, Minute, Second, OffsetMinute, OffsetSecond, Period, Subsecond, OffsetHour, UnixTimestampSecond, UnixTimestampMillisecond, UnixTimestampMicrosecond, UnixTimestampNanosecond, Ignore, End, Month, Weekday, WeekNumber, Hour, UnixTimestamp, Year}
use Rattle.timefd_lang_component.specs.Tree.{Text}
use Rattle.timefd_lang_component.specs.Texts.{filled, subsecond, short_months, long_months, short_weekdays, long_weekdays}
use Rattle.timefd_date_moment.specs.declared.date.Date.{Date}
use Rattle.timefd_date_moment.specs.declared.time.Time.{Time}
use Rattle.timefd_date_moment.specs.declared.offset.UtcOffset.{UtcOffset}
use Rattle.timefd_date_moment.specs.declared.moment.Moment.{Moment}
use Rattle.timefd_date_moment.specs.declared.unix_time.UnixTime.{UnixTime}
use Rattle.timefd_date_moment.specs.Moments.{date_ordinal, days_from_monday, days_from_sunday, iso_years, iso_week, sunday_week, monday_week, magnitude, is_before_zero, hour_of_twelve, unix_time}
use Rattle.timefd_date_moment.specs.Instants.{is_within}
use Rattle.timefd_date_format.specs.declared.field.WrittenField.{WrittenField}
use Rattle.timefd_date_format.specs.declared.field.WrittenField.TheVariants as shows
use Rattle.timefd_date_format.specs.declared.field.Sign.{Sign}
use Rattle.timefd_date_format.specs.declared.field.Lack.{Lack}
use Rattle.timefd_date_format.specs.declared.field.Lack.TheVariants as lack
use Rattle.timefd_date_format.specs.declared.instant.Unit.{Unit}
use Rattle.timefd_date_format.specs.Kinds.{Kind}
use Rattle.timefd_date_format.specs.Kinds as of

-- The text of a field.

abbrev pub sign_text : Sign → Text
sign_text Sign.None = []
sign_text Sign.Minus = codes "-"
sign_text Sign.Plus = codes "+"

-- The name with a given index, counted from 0.
abbrev pub name_at : List Text → ℕ → Text
name_at names n = get_or names n []

abbrev pub period_text : Bool → Bool → Text
period_text true false = codes "AM"
period_text true true = codes "PM"
period_text false false = codes "am"
period_text false true = codes "pm"

abbrev pub field_text : WrittenField → Text
field_text (shows.MonthShort month) = name_at short_months (month - 1)
field_text (shows.MonthLong month) = name_at long_months (month - 1)
field_text (shows.WeekdayShort day) = name_at short_weekdays day
field_text (shows.WeekdayLong day) = name_at long_weekdays day
field_text (shows.Period is_uppercase is_afternoon) = period_text is_uppercase is_afternoon
field_text (shows.Number n) = sign_text n.sign ++ filled n.padding n.width n.value
field_text (shows.Fraction digits nanosecond) = subsecond digits nanosecond
field_text shows.Nothing = []

-- What a field may hold.
abbrev pub IsField : WrittenField → Type 0
IsField (shows.MonthShort month) = (1 ≤ month) × (month ≤ 12)
IsField (shows.MonthLong month) = (1 ≤ month) × (month ≤ 12)
IsField (shows.WeekdayShort day) = day ≤ 6
IsField (shows.WeekdayLong day) = day ≤ 6
IsField (shows.Fraction digits nanosecond) = nanosecond ≤ 999999999
IsField _ = ⊤

-- The field of a component.

abbrev pub sign_of : Bool → Bool → Sign
sign_of true has_plus = Sign.Minus
sign_of false true = Sign.Plus
sign_of false false = Sign.None

abbrev pub signed : Bool → Bool → Padding → ℕ → ℕ → WrittenField
signed is_negative has_plus padding width value = shows.Number (record {
  sign = sign_of is_negative has_plus;
  padding = padding;
  width = width;
  value = value;
})

abbrev pub plain : Padding → ℕ → ℕ → WrittenField
plain = signed false false

-- A year of at most this magnitude, or its hundreds. Only years of five digits and more need a plus: it
-- distinguishes them from years of four.
abbrev pub year : ℕ → ℕ → ℕ → Padding → Bool → ℕ → Result WrittenField Lack
year greatest width unit padding mandatory years =
    if nat_le (magnitude years) greatest then Ok
    (signed (is_before_zero years) (mandatory || nat_le 10000 (magnitude years)) padding width
    (magnitude years / unit)) else Err lack.YearTooLong

abbrev pub last_two : Padding → ℕ → Result WrittenField Lack
last_two padding years = Ok (plain padding 2 (magnitude years % 100))

abbrev pub from_one : Bool → ℕ → ℕ
from_one true n = n + 1
from_one false n = n

abbrev pub date_field : Date → Component → Result WrittenField Lack
date_field d (Day m) = Ok (plain m.padding 2 d.day)
date_field d (MonthShort m) = Ok (shows.MonthShort d.month)
date_field d (MonthLong m) = Ok (shows.MonthLong d.month)
date_field d (MonthNumerical m) = Ok (plain m.padding 2 d.month)
date_field d (Ordinal m) = Ok (plain m.padding 3 (date_ordinal d))
date_field d (WeekdayShort m) = Ok (shows.WeekdayShort (days_from_monday d))
date_field d (WeekdayLong m) = Ok (shows.WeekdayLong (days_from_monday d))
date_field d (WeekdaySunday m) = Ok (plain Padding.None 1 (from_one m.one_indexed (days_from_sunday d)))
date_field d (WeekdayMonday m) = Ok (plain Padding.None 1 (from_one m.one_indexed (days_from_monday d)))
date_field d (WeekNumberIso m) = Ok (plain m.padding 2 (iso_week d))
date_field d (WeekNumberSunday m) = Ok (plain m.padding 2 (sunday_week d))
date_field d (WeekNumberMonday m) = Ok (plain m.padding 2 (monday_week d))
date_field d (CalendarYearFullExtendedRange m) = year 999999 4 1 m.padding m.sign_is_mandatory d.years
date_field d (CalendarYearFullStandardRange m) = year 9999 4 1 m.padding m.sign_is_mandatory d.years
date_field d (CalendarYearCenturyExtendedRange m) = year 999999 2 100 m.padding m.sign_is_mandatory d.years
date_field d (CalendarYearCenturyStandardRange m) = year 9999 2 100 m.padding m.sign_is_mandatory d.years
date_field d (IsoYearFullExtendedRange m) = year 999999 4 1 m.padding m.sign_is_mandatory (iso_years d)
date_field d (IsoYearFullStandardRange m) = year 9999 4 1 m.padding m.sign_is_mandatory (iso_years d)
date_field d (IsoYearCenturyExtendedRange m) = year 999999 2 100 m.padding m.sign_is_mandatory (iso_years d)
date_field d (IsoYearCenturyStandardRange m) = year 9999 2 100 m.padding m.sign_is_mandatory (iso_years d)
date_field d (CalendarYearLastTwo m) = last_two m.padding d.years
date_field d (IsoYearLastTwo m) = last_two m.padding (iso_years d)
date_field d _ = Ok shows.Nothing

abbrev pub time_field : Time → Component → WrittenField
time_field t (Hour12 m) = plain m.padding 2 (hour_of_twelve t.hour)
time_field t (Hour24 m) = plain m.padding 2 t.hour
time_field t (Minute m) = plain m.padding 2 t.minute
time_field t (Second m) = plain m.padding 2 t.second
time_field t (Period m) = shows.Period m.is_uppercase (nat_le 12 t.hour)
time_field t (Subsecond m) = shows.Fraction m.digits t.nanosecond
time_field t _ = shows.Nothing

-- The sign is the sign of the whole offset: half an hour west of UTC has the hours -00.
abbrev pub offset_field : UtcOffset → Component → WrittenField
offset_field o (OffsetHour m) = signed o.is_negative m.sign_is_mandatory m.padding 2 (o.seconds / 3600)
offset_field o (OffsetMinute m) = plain m.padding 2 (o.seconds / 60 % 60)
offset_field o (OffsetSecond m) = plain m.padding 2 (o.seconds % 60)
offset_field o _ = shows.Nothing

-- The whole seconds, rounded down.
abbrev pub whole_seconds : UnixTime → ℕ
whole_seconds u =
    if u.is_negative then (u.nanoseconds + 999999999) / 1000000000 else u.nanoseconds / 1000000000

-- Seconds are rounded down, and smaller units towards zero.
abbrev pub stamp_of : Bool → UnixTime → ℕ → WrittenField
stamp_of mandatory u value = signed u.is_negative mandatory Padding.None 1 value

-- The timestamp of a unit, and how many units an instant is from the start of 1970.
abbrev pub timestamp : Unit → Bool → Component
timestamp Unit.Second mandatory = UnixTimestampSecond (record { sign_is_mandatory = mandatory })
timestamp Unit.Millisecond mandatory = UnixTimestampMillisecond (record { sign_is_mandatory = mandatory })
timestamp Unit.Microsecond mandatory = UnixTimestampMicrosecond (record { sign_is_mandatory = mandatory })
timestamp Unit.Nanosecond mandatory = UnixTimestampNanosecond (record { sign_is_mandatory = mandatory })

abbrev pub counted : UnixTime → Unit → ℕ
counted u Unit.Second = whole_seconds u
counted u Unit.Millisecond = u.nanoseconds / 1000000
counted u Unit.Microsecond = u.nanoseconds / 1000
counted u Unit.Nanosecond = u.nanoseconds

abbrev pub stamp_field : UnixTime → Component → WrittenField
stamp_field u (UnixTimestampSecond m) = stamp_of m.sign_is_mandatory u (whole_seconds u)
stamp_field u (UnixTimestampMillisecond m) = stamp_of m.sign_is_mandatory u (u.nanoseconds / 1000000)
stamp_field u (UnixTimestampMicrosecond m) = stamp_of m.sign_is_mandatory u (u.nanoseconds / 1000)
stamp_field u (UnixTimestampNanosecond m) = stamp_of m.sign_is_mandatory u u.nanoseconds
stamp_field u _ = shows.Nothing

abbrev pub instant_field : UnixTime → Component → Result WrittenField Lack
instant_field u c = if is_within u then Ok (stamp_field u c) else Err lack.InstantOutOfRange

-- Which part of a moment a component shows. A deprecated one is replaced before that.
abbrev pub kind : Component → Kind
kind (Day m) = of.Date
kind (MonthShort m) = of.Date
kind (MonthLong m) = of.Date
kind (MonthNumerical m) = of.Date
kind (Ordinal m) = of.Date
kind (WeekdayShort m) = of.Date
kind (WeekdayLong m) = of.Date
kind (WeekdaySunday m) = of.Date
kind (WeekdayMonday m) = of.Date
kind (WeekNumberIso m) = of.Date
kind (WeekNumberSunday m) = of.Date
kind (WeekNumberMonday m) = of.Date
kind (CalendarYearFullExtendedRange m) = of.Date
kind (CalendarYearFullStandardRange m) = of.Date
kind (CalendarYearCenturyExtendedRange m) = of.Date
kind (CalendarYearCenturyStandardRange m) = of.Date
kind (IsoYearFullExtendedRange m) = of.Date
kind (IsoYearFullStandardRange m) = of.Date
kind (IsoYearCenturyExtendedRange m) = of.Date
kind (IsoYearCenturyStandardRange m) = of.Date
kind (CalendarYearLastTwo m) = of.Date
kind (IsoYearLastTwo m) = of.Date
kind (Hour12 m) = of.Time
kind (Hour24 m) = of.Time
kind (Minute m) = of.Time
kind (Second m) = of.Time
kind (Period m) = of.Time
kind (Subsecond m) = of.Time
kind (OffsetHour m) = of.Offset
kind (OffsetMinute m) = of.Offset
kind (OffsetSecond m) = of.Offset
kind (UnixTimestampSecond m) = of.Instant
kind (UnixTimestampMillisecond m) = of.Instant
kind (UnixTimestampMicrosecond m) = of.Instant
kind (UnixTimestampNanosecond m) = of.Instant
kind (Ignore m) = of.Nothing
kind (End m) = of.Nothing
kind (Month m) = of.Nothing
kind (Weekday m) = of.Nothing
kind (WeekNumber m) = of.Nothing
kind (Hour m) = of.Nothing
kind (UnixTimestamp m) = of.Nothing
kind (Year m) = of.Nothing

abbrev pub on_date : Option Date → (Date → Result WrittenField Lack) → Result WrittenField Lack
on_date None shown = Err lack.NoDate
on_date (Some d) shown = shown d

abbrev pub on_time : Option Time → (Time → Result WrittenField Lack) → Result WrittenField Lack
on_time None shown = Err lack.NoTime
on_time (Some t) shown = shown t

abbrev pub on_offset : Option UtcOffset → (UtcOffset → Result WrittenField Lack) → Result WrittenField Lack
on_offset None shown = Err lack.NoOffset
on_offset (Some o) shown = shown o

abbrev pub by_kind : Kind → Moment → Component → Result WrittenField Lack
by_kind of.Date m c = on_date m.date (λ d. date_field d c)
by_kind of.Time m c = on_time m.time (λ t. Ok (time_field t c))
by_kind of.Offset m c = on_offset m.offset (λ o. Ok (offset_field o c))
by_kind of.Instant m c =
    on_date m.date (λ d. on_time m.time (λ t. on_offset m.offset (λ o.
    instant_field (unix_time d t o) c)))
by_kind of.Nothing m c = Ok shows.Nothing

-- What a modern component shows of a moment.
abbrev pub field : Moment → Component → Result WrittenField Lack
field m c = by_kind (kind c) m c
