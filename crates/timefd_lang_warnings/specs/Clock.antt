-- Warnings about the time of day.
use Rattle.std.specs.Prelude.{Bool, ◌&&◌, ◌||◌, not, List}
use Rattle.timefd_lang_component.specs.Tree.{Tree}
use Rattle.timefd_lang_warnings.specs.declared.field.ShownField.{ShownField}
use Rattle.timefd_lang_warnings.specs.Sought.{shows, shows_before}

-- the next component after an hour is a month as a number, and there is no minute: `[hour]:[month]`
abbrev pub month_for_minute : List Tree → Bool
month_for_minute ts =
    (shows_before ShownField.Hour24 ShownField.MonthNumber ts || shows_before ShownField.Hour12 ShownField.MonthNumber ts)
    && not (shows ShownField.Minute ts)

-- the next component after a year is a minute, and there is no month: `[year]-[minute]`
abbrev pub minute_for_month : List Tree → Bool
minute_for_month ts = shows_before ShownField.Year ShownField.Minute ts && not (shows ShownField.MonthNumber ts)
    && not (shows ShownField.MonthName ts)

-- a 12-hour hour, and nothing that says which half of the day it is in
abbrev pub hour_without_period : List Tree → Bool
hour_without_period ts = shows ShownField.Hour12 ts && not (shows ShownField.Period ts)
    && not (shows ShownField.Hour24 ts)

-- a period that says nothing new: `[hour]:[minute] [period]`
abbrev pub period_with_hour_24 : List Tree → Bool
period_with_hour_24 ts = shows ShownField.Period ts && shows ShownField.Hour24 ts && not (shows ShownField.Hour12 ts)

-- a fraction of a second that isn't written; a timestamp has whole seconds
abbrev pub subsecond_without_second : List Tree → Bool
subsecond_without_second ts = shows ShownField.Subsecond ts && not (shows ShownField.Second ts)
    && not (shows ShownField.Timestamp ts)
