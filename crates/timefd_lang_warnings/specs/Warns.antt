-- Which warnings a description has, by its parts in order.
use Rattle.std.specs.Prelude.{Bool, not, List}
use Rattle.timefd_lang_component.specs.Tree.{Tree}
use Rattle.timefd_lang_warnings.specs.declared.mark.ComponentMark.{ComponentMark}
use Rattle.timefd_lang_warnings.specs.declared.sought.Sought.TheVariants as seek
use Rattle.timefd_lang_warnings.specs.declared.warning.Warning.{Warning}
use Rattle.timefd_lang_warnings.specs.declared.warning.Warning.TheVariants.{NoComponent, OtherLanguage, MonthForMinute, MinuteForMonth, HourWithoutPeriod, PeriodWithHour24, SubsecondWithoutSecond, WeekWithCalendarYear, DateWithIsoYear, ShownTwice, UndeterminedDate, UnsettledWidth, UnsettledYear, DeprecatedComponent}
use Rattle.timefd_lang_warnings.specs.declared.warned.LanguageStyle.{LanguageStyle}
use Rattle.timefd_lang_warnings.specs.declared.width.Width.{Width}
use Rattle.timefd_lang_warnings.specs.Clock as clock
use Rattle.timefd_lang_warnings.specs.Dates as dates
use Rattle.timefd_lang_warnings.specs.Sought.{has}
use Rattle.timefd_lang_warnings.specs.Twice.{shown_twice}

-- what begins a component of the other style
abbrev pub other_mark : LanguageStyle → ComponentMark
other_mark LanguageStyle.Brackets = ComponentMark.Percent
other_mark LanguageStyle.Percents = ComponentMark.Bracket

abbrev pub warns : LanguageStyle → Warning → List Tree → Bool
warns style NoComponent ts = not (has seek.Component ts)
warns style OtherLanguage ts = has (seek.Text (other_mark style)) ts
warns style MonthForMinute ts = clock.month_for_minute ts
warns style MinuteForMonth ts = clock.minute_for_month ts
warns style HourWithoutPeriod ts = clock.hour_without_period ts
warns style PeriodWithHour24 ts = clock.period_with_hour_24 ts
warns style SubsecondWithoutSecond ts = clock.subsecond_without_second ts
warns style WeekWithCalendarYear ts = dates.week_with_calendar_year ts
warns style DateWithIsoYear ts = dates.date_with_iso_year ts
warns style ShownTwice ts = shown_twice ts
warns style UndeterminedDate ts = dates.undetermined_date ts
warns style UnsettledWidth ts = has (seek.Touches Width.Varies) ts
warns style UnsettledYear ts = has (seek.Touches Width.Wider) ts
warns style DeprecatedComponent ts = has seek.Deprecated ts
