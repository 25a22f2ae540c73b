-- What is reported about each trap.
use Rattle.std.specs.Prelude.{codes}
use Rattle.timefd_lang_component.specs.Tree.{Text}
use Rattle.timefd_lang_dialect.specs.declared.trap.Trap.{Trap}
use Rattle.timefd_lang_dialect.specs.declared.trap.Trap.TheVariants.{WeekYearBesideMonth, DayOfYearBesideMonth, HourWithoutPeriod, MinuteBesideDay, SecondBeforeMinute, TwoLetterWeekday, WeekdayFromZero, Panic, YearWithoutCentury}

abbrev pub name : Trap → Text
name WeekYearBesideMonth = codes "week-year-beside-month"
name DayOfYearBesideMonth = codes "day-of-year-beside-month"
name HourWithoutPeriod = codes "hour-without-period"
name MinuteBesideDay = codes "minute-beside-day"
name SecondBeforeMinute = codes "second-before-minute"
name TwoLetterWeekday = codes "two-letter-weekday"
name WeekdayFromZero = codes "weekday-from-zero"
name Panic = codes "panic"
name YearWithoutCentury = codes "year-without-century"

abbrev pub sentence : Trap → Text
sentence WeekYearBesideMonth = codes "the year of weeks is another one around New Year"
sentence DayOfYearBesideMonth = codes "it counts the days of the year, and not of the month"
sentence HourWithoutPeriod = codes "the hour runs from 1 to 12, and nothing writes AM or PM"
sentence MinuteBesideDay = codes "it is the minute, and not the month"
sentence SecondBeforeMinute = codes "the second comes before the minute"
sentence TwoLetterWeekday = codes "it is a weekday of two letters, and not the day"
sentence WeekdayFromZero = codes "it counts weekdays from 0, which is Sunday"
sentence Panic = codes "chrono panics where it writes by this format"
sentence YearWithoutCentury = codes "nothing gives the century of the year"

abbrev pub cure : Trap → Text
cure WeekYearBesideMonth = codes "Write the year of the calendar."
cure DayOfYearBesideMonth = codes "Write the day of the month, or leave the month out."
cure HourWithoutPeriod = codes "Write the hour of 24, or add AM and PM."
cure MinuteBesideDay = codes "Write the month."
cure SecondBeforeMinute = codes "Write the minute before the second."
cure TwoLetterWeekday = codes "Write the day of the month in capitals, or the short name."
cure WeekdayFromZero = codes "Count from 0, or write the weekday from 1, which is Monday."
cure Panic = codes "Write a directive that chrono has."
cure YearWithoutCentury = codes "Write the year with four digits."
