-- Components as they are written in brackets. One table for the full words, which say every modifier,
-- and for the normal form, which omits what is the default in version 3.
use Rattle.std.specs.Prelude.{Bool, true, false, codes, decimal, List, [], ◌∷◌, ◌++◌}
use Rattle.timefd_modifier.specs.declared.enums.Padding.{Padding}
use Rattle.timefd_modifier.specs.declared.enums.SubsecondDigits.{SubsecondDigits}
use Rattle.timefd_modifier.specs.declared.enums.TrailingInput.{TrailingInput}
use Rattle.timefd_lang_component.specs.declared.component.Component.{Component}
use Rattle.timefd_lang_component.specs.declared.component.Component.TheVariants.{Day, MonthShort, MonthLong, MonthNumerical, Ordinal, WeekdayShort, WeekdayLong, WeekdaySunday, WeekdayMonday, WeekNumberIso, WeekNumberSunday, WeekNumberMonday, CalendarYearFullExtendedRange, CalendarYearFullStandardRange, CalendarYearCenturyExtendedRange, CalendarYearCenturyStandardRange, IsoYearFullExtendedRange, IsoYearFullStandardRange, IsoYearCenturyExtendedRange, IsoYearCenturyStandardRange, CalendarYearLastTwo, IsoYearLastTwo, Hour12, Hour24, Minute, Period, Second, Subsecond, OffsetHour, OffsetMinute, OffsetSecond, Ignore, UnixTimestampSecond, UnixTimestampMillisecond, UnixTimestampMicrosecond, UnixTimestampNanosecond, End, Month, Weekday, WeekNumber, Hour, UnixTimestamp, Year}
use Rattle.timefd_lang_component.specs.Tree.{Text}
use Rattle.timefd_lang_component.specs.declared.bracket.defaults.Defaults.{Defaults}

-- the first text if defaults are written, the second if they are omitted
abbrev pub choose : Defaults → Text → Text → Text
choose Defaults.Written written omitted = written
choose Defaults.Omitted written omitted = omitted

-- Modifiers, after a space.

abbrev pub padded : Defaults → Padding → Text
padded d Padding.Zero = choose d (codes " padding:zero") []
padded d Padding.Space = codes " padding:space"
padded d Padding.None = codes " padding:none"

-- whether the sign is mandatory
abbrev pub signed : Defaults → Bool → Text
signed d false = choose d (codes " sign:automatic") []
signed d true = codes " sign:mandatory"

-- whether case makes a difference
abbrev pub cased : Defaults → Bool → Text
cased d true = choose d (codes " case_sensitive:true") []
cased d false = codes " case_sensitive:false"

-- whether days are counted from one
abbrev pub indexed : Defaults → Bool → Text
indexed d true = choose d (codes " one_indexed:true") []
indexed d false = codes " one_indexed:false"

-- whether letters are capitals
abbrev pub lettered : Defaults → Bool → Text
lettered d true = choose d (codes " case:upper") []
lettered d false = codes " case:lower"

abbrev pub numbered : Defaults → SubsecondDigits → Text
numbered d SubsecondDigits.OneOrMore = choose d (codes " digits:1+") []
numbered d SubsecondDigits.One = codes " digits:1"
numbered d SubsecondDigits.Two = codes " digits:2"
numbered d SubsecondDigits.Three = codes " digits:3"
numbered d SubsecondDigits.Four = codes " digits:4"
numbered d SubsecondDigits.Five = codes " digits:5"
numbered d SubsecondDigits.Six = codes " digits:6"
numbered d SubsecondDigits.Seven = codes " digits:7"
numbered d SubsecondDigits.Eight = codes " digits:8"
numbered d SubsecondDigits.Nine = codes " digits:9"

abbrev pub trailed : Defaults → TrailingInput → Text
trailed d TrailingInput.Prohibit = choose d (codes " trailing_input:prohibit") []
trailed d TrailingInput.Discard = codes " trailing_input:discard"

-- Components: the name with the words that say the form, then two modifiers at most. For a deprecated
-- component its modern form is written instead.

-- The name with the words that say the form, up to the digits of a count. The range of a year is never
-- omitted, as version 2 has another default.
abbrev pub form : Defaults → Component → Text
form d (Day m) = codes "day"
form d (MonthShort m) = codes "month repr:short"
form d (MonthLong m) = codes "month repr:long"
form d (MonthNumerical m) = choose d (codes "month repr:numerical") (codes "month")
form d (Ordinal m) = codes "ordinal"
form d (WeekdayShort m) = codes "weekday repr:short"
form d (WeekdayLong m) = choose d (codes "weekday repr:long") (codes "weekday")
form d (WeekdaySunday m) = codes "weekday repr:sunday"
form d (WeekdayMonday m) = codes "weekday repr:monday"
form d (WeekNumberIso m) = choose d (codes "week_number repr:iso") (codes "week_number")
form d (WeekNumberSunday m) = codes "week_number repr:sunday"
form d (WeekNumberMonday m) = codes "week_number repr:monday"
form d (CalendarYearFullExtendedRange m) =
    choose d (codes "year repr:full range:extended base:calendar") (codes "year range:extended")
form d (CalendarYearFullStandardRange m) =
    choose d (codes "year repr:full range:standard base:calendar") (codes "year range:standard")
form d (CalendarYearCenturyExtendedRange m) =
    choose d (codes "year repr:century range:extended base:calendar") (codes "year repr:century range:extended")
form d (CalendarYearCenturyStandardRange m) =
    choose d (codes "year repr:century range:standard base:calendar") (codes "year repr:century range:standard")
form d (IsoYearFullExtendedRange m) =
    choose d (codes "year repr:full range:extended base:iso_week") (codes "year range:extended base:iso_week")
form d (IsoYearFullStandardRange m) =
    choose d (codes "year repr:full range:standard base:iso_week") (codes "year range:standard base:iso_week")
form d (IsoYearCenturyExtendedRange m) = codes "year repr:century range:extended base:iso_week"
form d (IsoYearCenturyStandardRange m) = codes "year repr:century range:standard base:iso_week"
form d (CalendarYearLastTwo m) =
    choose d (codes "year repr:last_two base:calendar") (codes "year repr:last_two")
form d (IsoYearLastTwo m) = codes "year repr:last_two base:iso_week"
form d (Hour12 m) = codes "hour repr:12"
form d (Hour24 m) = choose d (codes "hour repr:24") (codes "hour")
form d (Minute m) = codes "minute"
form d (Period m) = codes "period"
form d (Second m) = codes "second"
form d (Subsecond m) = codes "subsecond"
form d (OffsetHour m) = codes "offset_hour"
form d (OffsetMinute m) = codes "offset_minute"
form d (OffsetSecond m) = codes "offset_second"
form d (Ignore m) = codes "ignore count:"
form d (UnixTimestampSecond m) =
    choose d (codes "unix_timestamp precision:second") (codes "unix_timestamp")
form d (UnixTimestampMillisecond m) = codes "unix_timestamp precision:millisecond"
form d (UnixTimestampMicrosecond m) = codes "unix_timestamp precision:microsecond"
form d (UnixTimestampNanosecond m) = codes "unix_timestamp precision:nanosecond"
form d (End m) = codes "end"
form d (Month m) = []
form d (Weekday m) = []
form d (WeekNumber m) = []
form d (Hour m) = []
form d (UnixTimestamp m) = []
form d (Year m) = []

-- the digits of the count, if there is one
abbrev pub count_digits : Component → Text
count_digits (Ignore m) = decimal m.count.value
count_digits _ = []

-- what follows the form, where the count has these digits
abbrev pub first_modifier : Defaults → Component → Text → Text
first_modifier d (Day m) digits = padded d m.padding
first_modifier d (MonthShort m) digits = cased d m.case_sensitive
first_modifier d (MonthLong m) digits = cased d m.case_sensitive
first_modifier d (MonthNumerical m) digits = padded d m.padding
first_modifier d (Ordinal m) digits = padded d m.padding
first_modifier d (WeekdayShort m) digits = cased d m.case_sensitive
first_modifier d (WeekdayLong m) digits = cased d m.case_sensitive
first_modifier d (WeekdaySunday m) digits = indexed d m.one_indexed
first_modifier d (WeekdayMonday m) digits = indexed d m.one_indexed
first_modifier d (WeekNumberIso m) digits = padded d m.padding
first_modifier d (WeekNumberSunday m) digits = padded d m.padding
first_modifier d (WeekNumberMonday m) digits = padded d m.padding
first_modifier d (CalendarYearFullExtendedRange m) digits = padded d m.padding
first_modifier d (CalendarYearFullStandardRange m) digits = padded d m.padding
first_modifier d (CalendarYearCenturyExtendedRange m) digits = padded d m.padding
first_modifier d (CalendarYearCenturyStandardRange m) digits = padded d m.padding
first_modifier d (IsoYearFullExtendedRange m) digits = padded d m.padding
first_modifier d (IsoYearFullStandardRange m) digits = padded d m.padding
first_modifier d (IsoYearCenturyExtendedRange m) digits = padded d m.padding
first_modifier d (IsoYearCenturyStandardRange m) digits = padded d m.padding
first_modifier d (CalendarYearLastTwo m) digits = padded d m.padding
first_modifier d (IsoYearLastTwo m) digits = padded d m.padding
first_modifier d (Hour12 m) digits = padded d m.padding
first_modifier d (Hour24 m) digits = padded d m.padding
first_modifier d (Minute m) digits = padded d m.padding
first_modifier d (Period m) digits = lettered d m.is_uppercase
first_modifier d (Second m) digits = padded d m.padding
first_modifier d (Subsecond m) digits = numbered d m.digits
first_modifier d (OffsetHour m) digits = padded d m.padding
first_modifier d (OffsetMinute m) digits = padded d m.padding
first_modifier d (OffsetSecond m) digits = padded d m.padding
first_modifier d (Ignore m) digits = digits
first_modifier d (UnixTimestampSecond m) digits = signed d m.sign_is_mandatory
first_modifier d (UnixTimestampMillisecond m) digits = signed d m.sign_is_mandatory
first_modifier d (UnixTimestampMicrosecond m) digits = signed d m.sign_is_mandatory
first_modifier d (UnixTimestampNanosecond m) digits = signed d m.sign_is_mandatory
first_modifier d (End m) digits = trailed d m.trailing_input
first_modifier d (Month m) digits = []
first_modifier d (Weekday m) digits = []
first_modifier d (WeekNumber m) digits = []
first_modifier d (Hour m) digits = []
first_modifier d (UnixTimestamp m) digits = []
first_modifier d (Year m) digits = []

abbrev pub second_modifier : Defaults → Component → Text
second_modifier d (Day m) = []
second_modifier d (MonthShort m) = []
second_modifier d (MonthLong m) = []
second_modifier d (MonthNumerical m) = []
second_modifier d (Ordinal m) = []
second_modifier d (WeekdayShort m) = []
second_modifier d (WeekdayLong m) = []
second_modifier d (WeekdaySunday m) = []
second_modifier d (WeekdayMonday m) = []
second_modifier d (WeekNumberIso m) = []
second_modifier d (WeekNumberSunday m) = []
second_modifier d (WeekNumberMonday m) = []
second_modifier d (CalendarYearFullExtendedRange m) = signed d m.sign_is_mandatory
second_modifier d (CalendarYearFullStandardRange m) = signed d m.sign_is_mandatory
second_modifier d (CalendarYearCenturyExtendedRange m) = signed d m.sign_is_mandatory
second_modifier d (CalendarYearCenturyStandardRange m) = signed d m.sign_is_mandatory
second_modifier d (IsoYearFullExtendedRange m) = signed d m.sign_is_mandatory
second_modifier d (IsoYearFullStandardRange m) = signed d m.sign_is_mandatory
second_modifier d (IsoYearCenturyExtendedRange m) = signed d m.sign_is_mandatory
second_modifier d (IsoYearCenturyStandardRange m) = signed d m.sign_is_mandatory
second_modifier d (CalendarYearLastTwo m) = []
second_modifier d (IsoYearLastTwo m) = []
second_modifier d (Hour12 m) = []
second_modifier d (Hour24 m) = []
second_modifier d (Minute m) = []
second_modifier d (Period m) = cased d m.case_sensitive
second_modifier d (Second m) = []
second_modifier d (Subsecond m) = []
second_modifier d (OffsetHour m) = signed d m.sign_is_mandatory
second_modifier d (OffsetMinute m) = []
second_modifier d (OffsetSecond m) = []
second_modifier d (Ignore m) = []
second_modifier d (UnixTimestampSecond m) = []
second_modifier d (UnixTimestampMillisecond m) = []
second_modifier d (UnixTimestampMicrosecond m) = []
second_modifier d (UnixTimestampNanosecond m) = []
second_modifier d (End m) = []
second_modifier d (Month m) = []
second_modifier d (Weekday m) = []
second_modifier d (WeekNumber m) = []
second_modifier d (Hour m) = []
second_modifier d (UnixTimestamp m) = []
second_modifier d (Year m) = []

-- all that stands between the brackets
abbrev pub words : Defaults → Component → Text
words d c = form d c ++ first_modifier d c (count_digits c) ++ second_modifier d c
