-- The names of warnings, and the sentences that are reported about a description that has one.
use Rattle.std.specs.Prelude.{◌≡◌, ◌++◌, codes, bytes_eq, if◌then◌else◌, List, [], ◌∷◌, Option, Some, None}
use Rattle.timefd_lang_component.specs.Tree.{Text}
use Rattle.timefd_lang_warnings.specs.declared.warning.Warning.{Warning}
use Rattle.timefd_lang_warnings.specs.declared.warning.Warning.TheVariants.{NoComponent, OtherLanguage, MonthForMinute, MinuteForMonth, HourWithoutPeriod, PeriodWithHour24, SubsecondWithoutSecond, WeekWithCalendarYear, DateWithIsoYear, ShownTwice, UndeterminedDate, UnsettledWidth, UnsettledYear, DeprecatedComponent}

abbrev pub name_of : Warning → Text
name_of NoComponent = codes "no-component"
name_of OtherLanguage = codes "other-language"
name_of MonthForMinute = codes "month-for-minute"
name_of MinuteForMonth = codes "minute-for-month"
name_of HourWithoutPeriod = codes "hour-without-period"
name_of PeriodWithHour24 = codes "period-with-24-hours"
name_of SubsecondWithoutSecond = codes "subsecond-without-second"
name_of WeekWithCalendarYear = codes "week-with-calendar-year"
name_of DateWithIsoYear = codes "date-with-iso-year"
name_of ShownTwice = codes "shown-twice"
name_of UndeterminedDate = codes "undetermined-date"
name_of UnsettledWidth = codes "unsettled-width"
name_of UnsettledYear = codes "unsettled-year"
name_of DeprecatedComponent = codes "deprecated-component"

abbrev pub sentence_of : Warning → Text
sentence_of NoComponent = codes "no component: each moment is written alike"
sentence_of OtherLanguage = codes "text that another language reads as a component"
sentence_of MonthForMinute = codes "a month after an hour, and no minute"
sentence_of MinuteForMonth = codes "a minute after a year, and no month"
sentence_of HourWithoutPeriod = codes "an hour of twelve without AM or PM"
sentence_of PeriodWithHour24 = codes "AM or PM beside an hour of 24"
sentence_of SubsecondWithoutSecond = codes "a fraction of a second without the second"
sentence_of WeekWithCalendarYear = codes "an ISO week with the calendar's year"
sentence_of DateWithIsoYear = codes "a month or a day with the year of ISO weeks"
sentence_of ShownTwice = codes "the same is shown twice"
sentence_of UndeterminedDate = codes "parts of a date that determine none"
sentence_of UnsettledWidth = codes "a number of varying width touches a digit"
sentence_of UnsettledYear = codes "a year from 10,000 on touches a digit"
sentence_of DeprecatedComponent = codes "a deprecated component"

-- the warning with a name, if there is one
abbrev pub named : Text → Option Warning
named name =
    if bytes_eq name (codes "no-component") then Some NoComponent
    else if bytes_eq name (codes "other-language") then Some OtherLanguage
    else if bytes_eq name (codes "month-for-minute") then Some MonthForMinute
    else if bytes_eq name (codes "minute-for-month") then Some MinuteForMonth
    else if bytes_eq name (codes "hour-without-period") then Some HourWithoutPeriod
    else if bytes_eq name (codes "period-with-24-hours") then Some PeriodWithHour24
    else if bytes_eq name (codes "subsecond-without-second") then Some SubsecondWithoutSecond
    else if bytes_eq name (codes "week-with-calendar-year") then Some WeekWithCalendarYear
    else if bytes_eq name (codes "date-with-iso-year") then Some DateWithIsoYear
    else if bytes_eq name (codes "shown-twice") then Some ShownTwice
    else if bytes_eq name (codes "undetermined-date") then Some UndeterminedDate
    else if bytes_eq name (codes "unsettled-width") then Some UnsettledWidth
    else if bytes_eq name (codes "unsettled-year") then Some UnsettledYear
    else if bytes_eq name (codes "deprecated-component") then Some DeprecatedComponent
    else None

-- all warnings, in the order in which they are reported
abbrev pub all : List Warning
all = NoComponent ∷ OtherLanguage ∷ MonthForMinute ∷ MinuteForMonth ∷ HourWithoutPeriod
    ∷ PeriodWithHour24 ∷ SubsecondWithoutSecond ∷ WeekWithCalendarYear ∷ DateWithIsoYear ∷ ShownTwice
    ∷ UndeterminedDate ∷ UnsettledWidth ∷ UnsettledYear ∷ DeprecatedComponent ∷ []

-- Each warning is read back from its name, so no two have the same name.
abbrev pub NamesAreRead : Type 0
NamesAreRead = (w : Warning) → named (name_of w) ≡ Some w

-- Each warning is in the list of all of them.
abbrev pub AllAreThere : Type 0
AllAreThere = (w : Warning) → (before after : List Warning) × (all ≡ before ++ w ∷ after)
