-- The level of each warning: ignored, reported, or an error.
use Rattle.std.specs.Prelude.{ℕ, ◌≡◌, ◌+◌, Bool, true, false, if◌then◌else◌, List, [], ◌∷◌}
use Rattle.timefd_lang_component.specs.Tree.{Tree}
use Rattle.timefd_lang_warnings.specs.declared.levels.Level.{Level}
use Rattle.timefd_lang_warnings.specs.declared.levels.Level.TheVariants.{Allowed, Warned, Denied}
use Rattle.timefd_lang_warnings.specs.declared.levels.Levels.{Levels}
use Rattle.timefd_lang_warnings.specs.declared.warned.LanguageStyle.{LanguageStyle}
use Rattle.timefd_lang_warnings.specs.declared.warning.Warning.{Warning}
use Rattle.timefd_lang_warnings.specs.declared.warning.Warning.TheVariants.{NoComponent, OtherLanguage, MonthForMinute, MinuteForMonth, HourWithoutPeriod, PeriodWithHour24, SubsecondWithoutSecond, WeekWithCalendarYear, DateWithIsoYear, ShownTwice, UndeterminedDate, UnsettledWidth, UnsettledYear, DeprecatedComponent}
use Rattle.timefd_lang_warnings.specs.Codes.{all}
use Rattle.timefd_lang_warnings.specs.Warns.{warns}

abbrev pub level_of : Levels → Warning → Level
level_of l NoComponent = l.no_component
level_of l OtherLanguage = l.other_language
level_of l MonthForMinute = l.month_for_minute
level_of l MinuteForMonth = l.minute_for_month
level_of l HourWithoutPeriod = l.hour_without_period
level_of l PeriodWithHour24 = l.period_with_hour_24
level_of l SubsecondWithoutSecond = l.subsecond_without_second
level_of l WeekWithCalendarYear = l.week_with_calendar_year
level_of l DateWithIsoYear = l.date_with_iso_year
level_of l ShownTwice = l.shown_twice
level_of l UndeterminedDate = l.undetermined_date
level_of l UnsettledWidth = l.unsettled_width
level_of l UnsettledYear = l.unsettled_year
level_of l DeprecatedComponent = l.deprecated_component

-- each warning at the level that `at` gives it
abbrev pub by : (Warning → Level) → Levels
by at = record {
  no_component = at NoComponent;
  other_language = at OtherLanguage;
  month_for_minute = at MonthForMinute;
  minute_for_month = at MinuteForMonth;
  hour_without_period = at HourWithoutPeriod;
  period_with_hour_24 = at PeriodWithHour24;
  subsecond_without_second = at SubsecondWithoutSecond;
  week_with_calendar_year = at WeekWithCalendarYear;
  date_with_iso_year = at DateWithIsoYear;
  shown_twice = at ShownTwice;
  undetermined_date = at UndeterminedDate;
  unsettled_width = at UnsettledWidth;
  unsettled_year = at UnsettledYear;
  deprecated_component = at DeprecatedComponent;
}

abbrev pub all_at : Level → Levels
all_at level = by (λ w. level)

abbrev pub with_level : Levels → Warning → Level → Levels
with_level l NoComponent level = record l { no_component = level }
with_level l OtherLanguage level = record l { other_language = level }
with_level l MonthForMinute level = record l { month_for_minute = level }
with_level l MinuteForMonth level = record l { minute_for_month = level }
with_level l HourWithoutPeriod level = record l { hour_without_period = level }
with_level l PeriodWithHour24 level = record l { period_with_hour_24 = level }
with_level l SubsecondWithoutSecond level = record l { subsecond_without_second = level }
with_level l WeekWithCalendarYear level = record l { week_with_calendar_year = level }
with_level l DateWithIsoYear level = record l { date_with_iso_year = level }
with_level l ShownTwice level = record l { shown_twice = level }
with_level l UndeterminedDate level = record l { undetermined_date = level }
with_level l UnsettledWidth level = record l { unsettled_width = level }
with_level l UnsettledYear level = record l { unsettled_year = level }
with_level l DeprecatedComponent level = record l { deprecated_component = level }

-- the level of a warning if a description with these parts has it, and `Allowed` otherwise
abbrev pub found_at : Levels → LanguageStyle → List Tree → Warning → Level
found_at levels style ts w = if warns style w ts then level_of levels w else Allowed

abbrev pub found : Levels → LanguageStyle → List Tree → Levels
found levels style ts = by (found_at levels style ts)

abbrev pub is_same : Level → Level → Bool
is_same Allowed Allowed = true
is_same Allowed Warned = false
is_same Allowed Denied = false
is_same Warned Allowed = false
is_same Warned Warned = true
is_same Warned Denied = false
is_same Denied Allowed = false
is_same Denied Warned = false
is_same Denied Denied = true

abbrev pub one_if : Bool → ℕ
one_if true = 1
one_if false = 0

-- the number of these warnings with this level
abbrev pub count_among : Level → Levels → List Warning → ℕ
count_among level levels [] = 0
count_among level levels (w ∷ ws) =
    one_if (is_same level (level_of levels w)) + count_among level levels ws

abbrev pub count : Level → Levels → ℕ
count level levels = count_among level levels all

-- The level found for a warning is what its definition says.
abbrev pub FoundAsDefined : Type 0
FoundAsDefined = (levels : Levels) (style : LanguageStyle) (ts : List Tree) (w : Warning)
    → level_of (found levels style ts) w ≡ found_at levels style ts w

-- A level that is set for a warning is its level.
abbrev pub LevelIsSet : Type 0
LevelIsSet = (levels : Levels) (w : Warning) (level : Level)
    → level_of (with_level levels w level) w ≡ level
