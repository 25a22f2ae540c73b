-- What each warning means, and what to write instead.
use Rattle.std.specs.Prelude.{codes}
use Rattle.timefd_lang_component.specs.Tree.{Text}
use Rattle.timefd_lang_warnings.specs.declared.warning.Warning.{Warning}
use Rattle.timefd_lang_warnings.specs.declared.warning.Warning.TheVariants.{NoComponent, OtherLanguage, MonthForMinute, MinuteForMonth, HourWithoutPeriod, PeriodWithHour24, SubsecondWithoutSecond, WeekWithCalendarYear, DateWithIsoYear, ShownTwice, UndeterminedDate, UnsettledWidth, UnsettledYear, DeprecatedComponent}

abbrev pub explanation_of : Warning → Text
explanation_of NoComponent =
    codes
    "A description without a component writes the same text of each moment. Perhaps it is of another language: `%Y-%m-%d` is strftime's, and version 3 has `[year]-[month]-[day]`."
explanation_of OtherLanguage =
    codes
    "Text is written as it is, though another language would read a component there: `%H` in version 3 is a percent sign and a letter, and `[year]` in strftime is six letters and signs. Write the component in the language of the description."
explanation_of MonthForMinute =
    codes
    "`[hour]:[month]` writes 9:26 in November as `09:11`. Write `[minute]`, or `%M` in strftime."
explanation_of MinuteForMonth =
    codes
    "`[year]-[minute]` writes 26 minutes past an hour as a month that there is not. Write `[month]`, or `%m` in strftime."
explanation_of HourWithoutPeriod =
    codes
    "`[hour repr:12]:[minute]` writes nine in the morning and nine in the evening as `09:00`. Add `[period]`, or write `[hour]`."
explanation_of PeriodWithHour24 =
    codes
    "`[hour]:[minute] [period]` writes `21:00 PM`. Write `[hour repr:12]`, or leave `[period]` out."
explanation_of SubsecondWithoutSecond =
    codes
    "`[hour]:[minute].[subsecond]` writes 9:26:53.5 as `09:26.5`, which reads as half a minute. Write `[second].[subsecond]`."
explanation_of WeekWithCalendarYear =
    codes
    "`[year]-W[week_number]` writes 31 December 2024, which lies in the first week of 2025, as `2024-W01`. Write `[year base:iso_week]`, or `%G` in strftime."
explanation_of DateWithIsoYear =
    codes
    "`[year base:iso_week]-[month]-[day]` writes 31 December 2024 as `2025-12-31`. Write `[year]`, or `%Y` in strftime."
explanation_of ShownTwice =
    codes
    "`[month]/[month]/[year]` shows the month twice, and no day. A month or a weekday by name and by number counts as two."
explanation_of UndeterminedDate =
    codes
    "`[month]-[day]` writes 5 March of each year as `03-05`, so no reader knows the date. A date is determined by year, month and day; by year and ordinal; by ISO year, ISO week and weekday; and by year, week from Sunday or Monday, and weekday."
explanation_of UnsettledWidth =
    codes
    "`[month padding:none][day padding:none]` writes 11 January and 1 November as `111`. Put text between them, or leave `padding:none` out."
explanation_of UnsettledYear =
    codes
    "`[year range:extended][month]` writes January of the year 10,000 as `+1000001`, and a reader takes six digits as the year. Up to the year 9,999 nothing is lost. Write `range:standard`, or let text stand between."
explanation_of DeprecatedComponent =
    codes
    "The component stands for another, which its modifiers select. No text is read as one: it was made in code. `Component::modern` gives the other."
