-- The examples, proved by computing them.
use Rattle.std.specs.Prelude.{refl, take, drop}
use Rattle.timefd_lang_warnings.specs.declared.warning.Warning.TheVariants.{NoComponent, OtherLanguage, MonthForMinute, MinuteForMonth, HourWithoutPeriod, PeriodWithHour24, SubsecondWithoutSecond, WeekWithCalendarYear, DateWithIsoYear, ShownTwice, UndeterminedDate, UnsettledWidth, UnsettledYear, DeprecatedComponent}
use Rattle.timefd_lang_warnings.specs.Codes.{NamesAreRead, all, AllAreThere}
use Rattle.timefd_lang_warnings.specs.Laws.{ClockExamples, DateExamples, TextExamples, WidthExamples}

pub names_are_read : NamesAreRead
names_are_read NoComponent = refl
names_are_read OtherLanguage = refl
names_are_read MonthForMinute = refl
names_are_read MinuteForMonth = refl
names_are_read HourWithoutPeriod = refl
names_are_read PeriodWithHour24 = refl
names_are_read SubsecondWithoutSecond = refl
names_are_read WeekWithCalendarYear = refl
names_are_read DateWithIsoYear = refl
names_are_read ShownTwice = refl
names_are_read UndeterminedDate = refl
names_are_read UnsettledWidth = refl
names_are_read UnsettledYear = refl
names_are_read DeprecatedComponent = refl

pub all_are_there : AllAreThere
all_are_there NoComponent = (take 0 all, drop 1 all, refl)
all_are_there OtherLanguage = (take 1 all, drop 2 all, refl)
all_are_there MonthForMinute = (take 2 all, drop 3 all, refl)
all_are_there MinuteForMonth = (take 3 all, drop 4 all, refl)
all_are_there HourWithoutPeriod = (take 4 all, drop 5 all, refl)
all_are_there PeriodWithHour24 = (take 5 all, drop 6 all, refl)
all_are_there SubsecondWithoutSecond = (take 6 all, drop 7 all, refl)
all_are_there WeekWithCalendarYear = (take 7 all, drop 8 all, refl)
all_are_there DateWithIsoYear = (take 8 all, drop 9 all, refl)
all_are_there ShownTwice = (take 9 all, drop 10 all, refl)
all_are_there UndeterminedDate = (take 10 all, drop 11 all, refl)
all_are_there UnsettledWidth = (take 11 all, drop 12 all, refl)
all_are_there UnsettledYear = (take 12 all, drop 13 all, refl)
all_are_there DeprecatedComponent = (take 13 all, drop 14 all, refl)

pub text_examples : TextExamples
text_examples = ((refl, refl), (refl, refl), (refl, refl), (refl, refl))

pub clock_examples : ClockExamples
clock_examples = ((refl, refl), (refl, refl), (refl, refl), (refl, refl), (refl, refl), (refl, refl))

pub date_examples : DateExamples
date_examples = ((refl, refl), (refl, refl), (refl, refl), (refl, refl), (refl, refl), (refl, refl))

pub width_examples : WidthExamples
width_examples = ((refl, refl), (refl, refl), (refl, refl))
