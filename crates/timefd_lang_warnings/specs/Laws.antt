-- Examples of the definitions: for each warning a description that has it and one that doesn't.
use Rattle.std.specs.Prelude.{◌≡◌, true, false, List, [], ◌∷◌, codes}
use Rattle.timefd_modifier.specs.declared.enums.Padding.{Padding}
use Rattle.timefd_modifier.specs.declared.enums.SubsecondDigits.{SubsecondDigits}
use Rattle.timefd_lang_component.specs.declared.component.Component.TheVariants.{Day, MonthNumerical, MonthShort, WeekNumberIso, WeekdayMonday, CalendarYearFullExtendedRange, CalendarYearFullStandardRange, IsoYearFullStandardRange, Hour12, Hour24, Minute, Period, Second, Subsecond, UnixTimestampSecond, Hour}
use Rattle.timefd_lang_component.specs.Tree.{Tree, component, literal}
use Rattle.timefd_lang_warnings.specs.declared.warning.Warning.{Warning}
use Rattle.timefd_lang_warnings.specs.declared.warning.Warning.TheVariants.{NoComponent, OtherLanguage, MonthForMinute, MinuteForMonth, HourWithoutPeriod, PeriodWithHour24, SubsecondWithoutSecond, WeekWithCalendarYear, DateWithIsoYear, ShownTwice, UndeterminedDate, UnsettledWidth, UnsettledYear, DeprecatedComponent}
use Rattle.timefd_lang_warnings.specs.declared.warned.LanguageStyle.{LanguageStyle}
use Rattle.timefd_lang_warnings.specs.Warns.{warns}

-- Parts with their defaults.

abbrev year : Tree
year = component (CalendarYearFullStandardRange (record { padding = Padding.Zero; sign_is_mandatory = false }))

abbrev long_year : Tree
long_year = component (CalendarYearFullExtendedRange (record { padding = Padding.Zero; sign_is_mandatory = false }))

abbrev iso_year : Tree
iso_year = component (IsoYearFullStandardRange (record { padding = Padding.Zero; sign_is_mandatory = false }))

abbrev month : Tree
month = component (MonthNumerical (record { padding = Padding.Zero }))

abbrev bare_month : Tree
bare_month = component (MonthNumerical (record { padding = Padding.None }))

abbrev month_name : Tree
month_name = component (MonthShort (record { case_sensitive = true }))

abbrev day : Tree
day = component (Day (record { padding = Padding.Zero }))

abbrev week : Tree
week = component (WeekNumberIso (record { padding = Padding.Zero }))

abbrev weekday : Tree
weekday = component (WeekdayMonday (record { one_indexed = true }))

abbrev hour : Tree
hour = component (Hour24 (record { padding = Padding.Zero }))

abbrev hour_12 : Tree
hour_12 = component (Hour12 (record { padding = Padding.Zero }))

abbrev period : Tree
period = component (Period (record { is_uppercase = true; case_sensitive = true }))

abbrev minute : Tree
minute = component (Minute (record { padding = Padding.Zero }))

abbrev second : Tree
second = component (Second (record { padding = Padding.Zero }))

abbrev subsecond : Tree
subsecond = component (Subsecond (record { digits = SubsecondDigits.OneOrMore }))

abbrev timestamp : Tree
timestamp = component (UnixTimestampSecond (record { sign_is_mandatory = false }))

abbrev old_hour : Tree
old_hour = component (Hour (record { padding = Padding.Zero; is_12_hour_clock = false }))

-- the first has the warning, and the second doesn't
abbrev pub Distinguishes : LanguageStyle → Warning → List Tree → List Tree → Type 0
Distinguishes style w suspect clear = (warns style w suspect ≡ true) × (warns style w clear ≡ false)

-- `%Y` and `[year]`; `[year]` in strftime; `100%` and a year
abbrev pub TextExamples : Type 0
TextExamples =
    Distinguishes LanguageStyle.Brackets NoComponent (literal (codes "%Y") ∷ []) (year ∷ [])
    × Distinguishes LanguageStyle.Brackets OtherLanguage (literal (codes "%Y-") ∷ month ∷ []) (literal (codes "100% ") ∷ year ∷ [])
    × Distinguishes LanguageStyle.Percents OtherLanguage (literal (codes "[year]") ∷ []) (literal (codes "[") ∷ year ∷ [])
    × Distinguishes LanguageStyle.Brackets DeprecatedComponent (old_hour ∷ []) (hour ∷ [])

-- `[hour]:[month]` and `[hour]:[minute]`; `[year]-[minute]` and `[year]-[month]`; `[hour repr:12]` alone and
-- with `[period]`; `[hour] [period]` and `[hour repr:12] [period]`; `[minute].[subsecond]` and
-- `[second].[subsecond]`, `[unix_timestamp].[subsecond]`
abbrev pub ClockExamples : Type 0
ClockExamples =
    Distinguishes LanguageStyle.Brackets MonthForMinute (hour ∷ literal (codes ":") ∷ month ∷ []) (hour ∷ literal (codes ":") ∷ minute ∷ [])
    × Distinguishes LanguageStyle.Brackets MinuteForMonth (year ∷ literal (codes "-") ∷ minute ∷ []) (year ∷ literal (codes "-") ∷ month ∷ [])
    × Distinguishes LanguageStyle.Brackets HourWithoutPeriod (hour_12 ∷ []) (hour_12 ∷ literal (codes " ") ∷ period ∷ [])
    × Distinguishes LanguageStyle.Brackets PeriodWithHour24 (hour ∷ period ∷ []) (hour_12 ∷ period ∷ [])
    × Distinguishes LanguageStyle.Brackets SubsecondWithoutSecond (minute ∷ literal (codes ".") ∷ subsecond ∷ []) (second ∷ literal (codes ".") ∷ subsecond ∷ [])
    × Distinguishes LanguageStyle.Brackets SubsecondWithoutSecond (subsecond ∷ []) (timestamp ∷ literal (codes ".") ∷ subsecond ∷ [])

-- `[year]-W[week_number]` and with `base:iso_week`; `[year base:iso_week]-[month]` and `[year]-[month]`;
-- `[month]/[month]` and `[month repr:short] ([month])`; `[month]/[day]` and `[year]/[month]/[day]`, or an ISO
-- year, week and weekday
abbrev pub DateExamples : Type 0
DateExamples =
    Distinguishes LanguageStyle.Brackets WeekWithCalendarYear (year ∷ literal (codes "-W") ∷ week ∷ []) (iso_year ∷ literal (codes "-W") ∷ week ∷ [])
    × Distinguishes LanguageStyle.Brackets DateWithIsoYear (iso_year ∷ literal (codes "-") ∷ month ∷ []) (year ∷ literal (codes "-") ∷ month ∷ [])
    × Distinguishes LanguageStyle.Brackets ShownTwice (month ∷ literal (codes "/") ∷ month ∷ []) (month_name ∷ literal (codes " ") ∷ month ∷ [])
    × Distinguishes LanguageStyle.Brackets UndeterminedDate (month ∷ literal (codes "/") ∷ day ∷ []) (year ∷ month ∷ day ∷ [])
    × Distinguishes LanguageStyle.Brackets UndeterminedDate (iso_year ∷ week ∷ []) (iso_year ∷ week ∷ weekday ∷ [])
    × Distinguishes LanguageStyle.Brackets UndeterminedDate (weekday ∷ []) (hour ∷ minute ∷ [])

-- `[month padding:none][day]` and with a hyphen between; `[year range:extended][month]` and `[year][month]`
abbrev pub WidthExamples : Type 0
WidthExamples =
    Distinguishes LanguageStyle.Brackets UnsettledWidth (bare_month ∷ day ∷ []) (bare_month ∷ literal (codes "-") ∷ day ∷ [])
    × Distinguishes LanguageStyle.Brackets UnsettledWidth (subsecond ∷ literal (codes "0") ∷ []) (subsecond ∷ literal (codes "Z") ∷ [])
    × Distinguishes LanguageStyle.Brackets UnsettledYear (long_year ∷ month ∷ []) (year ∷ month ∷ [])
