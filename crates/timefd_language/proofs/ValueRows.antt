-- Examples with each name and each value, in version 3.
use Rattle.std.proofs.Common.{◌≡◌, refl, codes, List, [], ◌∷◌, ◌++◌, map, Result, Ok, true, false}
use Rattle.timefd_modifier.specs.declared.enums.Padding.{Padding}
use Rattle.timefd_modifier.specs.declared.enums.SubsecondDigits.{SubsecondDigits}
use Rattle.timefd_modifier.specs.declared.enums.TrailingInput.{TrailingInput}
use Rattle.timefd_lang_component.specs.declared.component.Component.{Component}
use Rattle.timefd_lang_component.specs.declared.component.Component.TheVariants.{Day, Minute, OffsetMinute, OffsetSecond, Ordinal, Second, Hour24, MonthNumerical, WeekNumberIso, End, Hour12, MonthLong, MonthShort, OffsetHour, Period, Subsecond, UnixTimestampSecond, UnixTimestampMillisecond, UnixTimestampMicrosecond, UnixTimestampNanosecond, WeekdayLong, WeekdayShort, WeekdaySunday, WeekdayMonday, WeekNumberSunday, WeekNumberMonday, CalendarYearFullStandardRange, CalendarYearFullExtendedRange, CalendarYearCenturyStandardRange, CalendarYearCenturyExtendedRange, CalendarYearLastTwo, IsoYearFullStandardRange, IsoYearFullExtendedRange, IsoYearCenturyStandardRange, IsoYearCenturyExtendedRange, IsoYearLastTwo}
use Rattle.timefd_lang_component.specs.Tree.{Text, Tree, component}
use Rattle.timefd_lang_fault.specs.Faults.{Fault}
use Rattle.timefd_language.specs.declared.description_version.DescriptionVersion.TheVariants.{Three}
use Rattle.timefd_language.proofs.Reader.{answer_of}

-- a text between brackets, and its component
record Case : Type 0 where
  text : Text
  gives : Component

abbrev bracketed : Text → Text
bracketed text = 91 ∷ (text ++ 93 ∷ [])

answers : List Case → List (Result (List Tree) Fault)
answers = map (λ c. answer_of Three 127 (bracketed c.text))

wanted : List Case → List (Result (List Tree) Fault)
wanted = map (λ c. Ok (component c.gives ∷ []))

infix 80 ◌gives◌
abbrev ◌gives◌ : Text → Component → Case
text gives c = record { text = text; gives = c }

cases : List Case
cases =
    codes "day" gives Day (record { padding = Padding.Zero })
    ∷ codes "day padding:zero" gives Day (record { padding = Padding.Zero })
    ∷ codes "day padding:space" gives Day (record { padding = Padding.Space })
    ∷ codes "day padding:none" gives Day (record { padding = Padding.None })
    ∷ codes "minute" gives Minute (record { padding = Padding.Zero })
    ∷ codes "minute padding:zero" gives Minute (record { padding = Padding.Zero })
    ∷ codes "minute padding:space" gives Minute (record { padding = Padding.Space })
    ∷ codes "minute padding:none" gives Minute (record { padding = Padding.None })
    ∷ codes "offset_minute" gives OffsetMinute (record { padding = Padding.Zero })
    ∷ codes "offset_minute padding:zero" gives OffsetMinute (record { padding = Padding.Zero })
    ∷ codes "offset_minute padding:space" gives OffsetMinute (record { padding = Padding.Space })
    ∷ codes "offset_minute padding:none" gives OffsetMinute (record { padding = Padding.None })
    ∷ codes "offset_second" gives OffsetSecond (record { padding = Padding.Zero })
    ∷ codes "offset_second padding:zero" gives OffsetSecond (record { padding = Padding.Zero })
    ∷ codes "offset_second padding:space" gives OffsetSecond (record { padding = Padding.Space })
    ∷ codes "offset_second padding:none" gives OffsetSecond (record { padding = Padding.None })
    ∷ codes "ordinal" gives Ordinal (record { padding = Padding.Zero })
    ∷ codes "ordinal padding:zero" gives Ordinal (record { padding = Padding.Zero })
    ∷ codes "ordinal padding:space" gives Ordinal (record { padding = Padding.Space })
    ∷ codes "ordinal padding:none" gives Ordinal (record { padding = Padding.None })
    ∷ codes "second" gives Second (record { padding = Padding.Zero })
    ∷ codes "second padding:zero" gives Second (record { padding = Padding.Zero })
    ∷ codes "second padding:space" gives Second (record { padding = Padding.Space })
    ∷ codes "second padding:none" gives Second (record { padding = Padding.None })
    ∷ codes "hour" gives Hour24 (record { padding = Padding.Zero })
    ∷ codes "hour padding:zero" gives Hour24 (record { padding = Padding.Zero })
    ∷ codes "hour padding:space" gives Hour24 (record { padding = Padding.Space })
    ∷ codes "hour padding:none" gives Hour24 (record { padding = Padding.None })
    ∷ codes "month" gives MonthNumerical (record { padding = Padding.Zero })
    ∷ codes "month padding:zero" gives MonthNumerical (record { padding = Padding.Zero })
    ∷ codes "month padding:space" gives MonthNumerical (record { padding = Padding.Space })
    ∷ codes "month padding:none" gives MonthNumerical (record { padding = Padding.None })
    ∷ codes "week_number" gives WeekNumberIso (record { padding = Padding.Zero })
    ∷ codes "week_number padding:zero" gives WeekNumberIso (record { padding = Padding.Zero })
    ∷ codes "week_number padding:space" gives WeekNumberIso (record { padding = Padding.Space })
    ∷ codes "week_number padding:none" gives WeekNumberIso (record { padding = Padding.None })
    ∷ codes "end" gives End (record { trailing_input = TrailingInput.Prohibit })
    ∷ codes "end trailing_input:prohibit" gives End
    (record { trailing_input = TrailingInput.Prohibit })
    ∷ codes "end trailing_input:discard" gives End
    (record { trailing_input = TrailingInput.Discard })
    ∷ codes "hour repr:24 padding:none" gives Hour24 (record { padding = Padding.None })
    ∷ codes "hour repr:12 padding:space" gives Hour12 (record { padding = Padding.Space })
    ∷ codes "month repr:numerical padding:none" gives MonthNumerical
    (record { padding = Padding.None })
    ∷ codes "month repr:long" gives MonthLong (record { case_sensitive = true })
    ∷ codes "month repr:long case_sensitive:false" gives MonthLong
    (record { case_sensitive = false })
    ∷ codes "month case_sensitive:true repr:long" gives MonthLong (record { case_sensitive = true })
    ∷ codes "month repr:short" gives MonthShort (record { case_sensitive = true })
    ∷ codes "month repr:short case_sensitive:false" gives MonthShort
    (record { case_sensitive = false })
    ∷ codes "month case_sensitive:true repr:short" gives MonthShort
    (record { case_sensitive = true })
    ∷ codes "offset_hour" gives OffsetHour
    (record { sign_is_mandatory = false; padding = Padding.Zero })
    ∷ codes "offset_hour sign:automatic padding:none" gives OffsetHour
    (record { sign_is_mandatory = false; padding = Padding.None })
    ∷ codes "offset_hour padding:space sign:mandatory" gives OffsetHour
    (record { sign_is_mandatory = true; padding = Padding.Space })
    ∷ codes "period" gives Period (record { is_uppercase = true; case_sensitive = true })
    ∷ codes "period case:upper case_sensitive:true" gives Period
    (record { is_uppercase = true; case_sensitive = true })
    ∷ codes "period case:lower" gives Period
    (record { is_uppercase = false; case_sensitive = true })
    ∷ codes "period case_sensitive:false" gives Period
    (record { is_uppercase = true; case_sensitive = false })
    ∷ codes "subsecond" gives Subsecond (record { digits = SubsecondDigits.OneOrMore })
    ∷ codes "subsecond digits:1+" gives Subsecond (record { digits = SubsecondDigits.OneOrMore })
    ∷ codes "subsecond digits:1" gives Subsecond (record { digits = SubsecondDigits.One })
    ∷ codes "subsecond digits:2" gives Subsecond (record { digits = SubsecondDigits.Two })
    ∷ codes "subsecond digits:3" gives Subsecond (record { digits = SubsecondDigits.Three })
    ∷ codes "subsecond digits:4" gives Subsecond (record { digits = SubsecondDigits.Four })
    ∷ codes "subsecond digits:5" gives Subsecond (record { digits = SubsecondDigits.Five })
    ∷ codes "subsecond digits:6" gives Subsecond (record { digits = SubsecondDigits.Six })
    ∷ codes "subsecond digits:7" gives Subsecond (record { digits = SubsecondDigits.Seven })
    ∷ codes "subsecond digits:8" gives Subsecond (record { digits = SubsecondDigits.Eight })
    ∷ codes "subsecond digits:9" gives Subsecond (record { digits = SubsecondDigits.Nine })
    ∷ codes "unix_timestamp" gives UnixTimestampSecond (record { sign_is_mandatory = false })
    ∷ codes "unix_timestamp precision:second" gives UnixTimestampSecond
    (record { sign_is_mandatory = false })
    ∷ codes "unix_timestamp sign:mandatory precision:second" gives UnixTimestampSecond
    (record { sign_is_mandatory = true })
    ∷ codes "unix_timestamp precision:millisecond" gives UnixTimestampMillisecond
    (record { sign_is_mandatory = false })
    ∷ codes "unix_timestamp sign:mandatory precision:millisecond" gives UnixTimestampMillisecond
    (record { sign_is_mandatory = true })
    ∷ codes "unix_timestamp precision:microsecond" gives UnixTimestampMicrosecond
    (record { sign_is_mandatory = false })
    ∷ codes "unix_timestamp sign:mandatory precision:microsecond" gives UnixTimestampMicrosecond
    (record { sign_is_mandatory = true })
    ∷ codes "unix_timestamp precision:nanosecond" gives UnixTimestampNanosecond
    (record { sign_is_mandatory = false })
    ∷ codes "unix_timestamp sign:mandatory precision:nanosecond" gives UnixTimestampNanosecond
    (record { sign_is_mandatory = true })
    ∷ codes "weekday" gives WeekdayLong (record { case_sensitive = true })
    ∷ codes "weekday repr:long" gives WeekdayLong (record { case_sensitive = true })
    ∷ codes "weekday repr:long case_sensitive:false" gives WeekdayLong
    (record { case_sensitive = false })
    ∷ codes "weekday repr:short" gives WeekdayShort (record { case_sensitive = true })
    ∷ codes "weekday repr:short case_sensitive:false" gives WeekdayShort
    (record { case_sensitive = false })
    ∷ codes "weekday repr:sunday" gives WeekdaySunday (record { one_indexed = true })
    ∷ codes "weekday repr:sunday one_indexed:false" gives WeekdaySunday
    (record { one_indexed = false })
    ∷ codes "weekday repr:monday" gives WeekdayMonday (record { one_indexed = true })
    ∷ codes "weekday repr:monday one_indexed:false" gives WeekdayMonday
    (record { one_indexed = false })
    ∷ codes "week_number repr:iso padding:none" gives WeekNumberIso
    (record { padding = Padding.None })
    ∷ codes "week_number repr:sunday padding:none" gives WeekNumberSunday
    (record { padding = Padding.None })
    ∷ codes "week_number repr:monday padding:none" gives WeekNumberMonday
    (record { padding = Padding.None })
    ∷ codes "year" gives CalendarYearFullStandardRange
    (record { padding = Padding.Zero; sign_is_mandatory = false })
    ∷ codes "year range:standard" gives CalendarYearFullStandardRange
    (record { padding = Padding.Zero; sign_is_mandatory = false })
    ∷ codes "year range:extended" gives CalendarYearFullExtendedRange
    (record { padding = Padding.Zero; sign_is_mandatory = false })
    ∷ codes "year repr:full" gives CalendarYearFullStandardRange
    (record { padding = Padding.Zero; sign_is_mandatory = false })
    ∷ codes "year repr:full range:standard" gives CalendarYearFullStandardRange
    (record { padding = Padding.Zero; sign_is_mandatory = false })
    ∷ codes "year repr:full range:extended" gives CalendarYearFullExtendedRange
    (record { padding = Padding.Zero; sign_is_mandatory = false })
    ∷ codes "year repr:century" gives CalendarYearCenturyStandardRange
    (record { padding = Padding.Zero; sign_is_mandatory = false })
    ∷ codes "year repr:century range:standard" gives CalendarYearCenturyStandardRange
    (record { padding = Padding.Zero; sign_is_mandatory = false })
    ∷ codes "year repr:century range:extended" gives CalendarYearCenturyExtendedRange
    (record { padding = Padding.Zero; sign_is_mandatory = false })
    ∷ codes "year repr:last_two padding:none" gives CalendarYearLastTwo
    (record { padding = Padding.None })
    ∷ codes "year base:calendar" gives CalendarYearFullStandardRange
    (record { padding = Padding.Zero; sign_is_mandatory = false })
    ∷ codes "year base:calendar range:standard" gives CalendarYearFullStandardRange
    (record { padding = Padding.Zero; sign_is_mandatory = false })
    ∷ codes "year base:calendar range:extended" gives CalendarYearFullExtendedRange
    (record { padding = Padding.Zero; sign_is_mandatory = false })
    ∷ codes "year base:calendar repr:full" gives CalendarYearFullStandardRange
    (record { padding = Padding.Zero; sign_is_mandatory = false })
    ∷ codes "year base:calendar repr:full range:standard" gives CalendarYearFullStandardRange
    (record { padding = Padding.Zero; sign_is_mandatory = false })
    ∷ codes "year base:calendar repr:full range:extended" gives CalendarYearFullExtendedRange
    (record { padding = Padding.Zero; sign_is_mandatory = false })
    ∷ codes "year base:calendar repr:century" gives CalendarYearCenturyStandardRange
    (record { padding = Padding.Zero; sign_is_mandatory = false })
    ∷ codes "year base:calendar repr:century range:standard" gives CalendarYearCenturyStandardRange
    (record { padding = Padding.Zero; sign_is_mandatory = false })
    ∷ codes "year base:calendar repr:century range:extended" gives CalendarYearCenturyExtendedRange
    (record { padding = Padding.Zero; sign_is_mandatory = false })
    ∷ codes "year repr:last_two padding:none base:calendar" gives CalendarYearLastTwo
    (record { padding = Padding.None })
    ∷ codes "year base:iso_week" gives IsoYearFullStandardRange
    (record { padding = Padding.Zero; sign_is_mandatory = false })
    ∷ codes "year base:iso_week range:standard" gives IsoYearFullStandardRange
    (record { padding = Padding.Zero; sign_is_mandatory = false })
    ∷ codes "year base:iso_week range:extended" gives IsoYearFullExtendedRange
    (record { padding = Padding.Zero; sign_is_mandatory = false })
    ∷ codes "year base:iso_week repr:full" gives IsoYearFullStandardRange
    (record { padding = Padding.Zero; sign_is_mandatory = false })
    ∷ codes "year base:iso_week repr:full range:standard" gives IsoYearFullStandardRange
    (record { padding = Padding.Zero; sign_is_mandatory = false })
    ∷ codes "year base:iso_week repr:full range:extended" gives IsoYearFullExtendedRange
    (record { padding = Padding.Zero; sign_is_mandatory = false })
    ∷ codes "year base:iso_week repr:century" gives IsoYearCenturyStandardRange
    (record { padding = Padding.Zero; sign_is_mandatory = false })
    ∷ codes "year base:iso_week repr:century range:standard" gives IsoYearCenturyStandardRange
    (record { padding = Padding.Zero; sign_is_mandatory = false })
    ∷ codes "year base:iso_week repr:century range:extended" gives IsoYearCenturyExtendedRange
    (record { padding = Padding.Zero; sign_is_mandatory = false })
    ∷ codes "year repr:last_two padding:none base:iso_week" gives IsoYearLastTwo
    (record { padding = Padding.None })
    ∷ codes "year sign:mandatory padding:space" gives CalendarYearFullStandardRange
    (record { padding = Padding.Space; sign_is_mandatory = true })
    ∷ codes "year sign:automatic" gives CalendarYearFullStandardRange
    (record { padding = Padding.Zero; sign_is_mandatory = false }) ∷ []

all_given : answers cases ≡ wanted cases
unfolding answers wanted cases answer_of
all_given = refl
