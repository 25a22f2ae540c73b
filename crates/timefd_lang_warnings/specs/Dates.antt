-- Warnings about dates.
use Rattle.std.specs.Prelude.{Bool, true, ◌&&◌, ◌||◌, not, if◌then◌else◌, List}
use Rattle.timefd_lang_component.specs.Tree.{Tree}
use Rattle.timefd_lang_warnings.specs.declared.field.ShownField.{ShownField}
use Rattle.timefd_lang_warnings.specs.Sought.{shows}

abbrev pub shows_any_year : List Tree → Bool
shows_any_year ts = shows ShownField.Year ts || shows ShownField.Century ts || shows ShownField.YearLastTwo ts

abbrev pub shows_any_iso_year : List Tree → Bool
shows_any_iso_year ts = shows ShownField.IsoYear ts || shows ShownField.IsoCentury ts || shows ShownField.IsoYearLastTwo ts

-- a day of the month or of the year
abbrev pub shows_any_day : List Tree → Bool
shows_any_day ts = shows ShownField.Day ts || shows ShownField.Ordinal ts

abbrev pub shows_month : List Tree → Bool
shows_month ts = shows ShownField.MonthName ts || shows ShownField.MonthNumber ts

abbrev pub shows_weekday : List Tree → Bool
shows_weekday ts = shows ShownField.WeekdayName ts || shows ShownField.WeekdayNumber ts

abbrev pub shows_week : List Tree → Bool
shows_week ts = shows ShownField.IsoWeek ts || shows ShownField.SundayWeek ts || shows ShownField.MondayWeek ts

-- An ISO week and a calendar year, which differ around New Year; no ISO year, and no day that the calendar
-- year could belong to: `[year]-W[week_number]`.
abbrev pub week_with_calendar_year : List Tree → Bool
week_with_calendar_year ts = shows ShownField.IsoWeek ts && shows_any_year ts && not (shows_any_iso_year ts)
    && not (shows_any_day ts)

-- a month or a day and the year of ISO weeks: `%G-%m-%d`
abbrev pub date_with_iso_year : List Tree → Bool
date_with_iso_year ts = (shows_month ts || shows_any_day ts) && shows_any_iso_year ts
    && not (shows_any_year ts)

-- What determines a date, in the ways in which its reader finds one.

-- the year, whole or as its century and its last two digits
abbrev pub shows_year : List Tree → Bool
shows_year ts = shows ShownField.Year ts || (shows ShownField.Century ts && shows ShownField.YearLastTwo ts)

abbrev pub shows_iso_year : List Tree → Bool
shows_iso_year ts = shows ShownField.IsoYear ts || (shows ShownField.IsoCentury ts && shows ShownField.IsoYearLastTwo ts)

-- the day of the year; month and day; or week from Sunday or Monday and weekday
abbrev pub determines_in_year : List Tree → Bool
determines_in_year ts = shows ShownField.Ordinal ts || (shows_month ts && shows ShownField.Day ts)
    || (shows_weekday ts && (shows ShownField.SundayWeek ts || shows ShownField.MondayWeek ts))

abbrev pub determines_date : List Tree → Bool
determines_date ts = if shows_year ts && determines_in_year ts then true
    else (shows_iso_year ts && shows ShownField.IsoWeek ts && shows_weekday ts)

abbrev pub shows_date_part : List Tree → Bool
shows_date_part ts = shows_any_year ts || shows_any_iso_year ts || shows_month ts || shows_any_day ts
    || shows_weekday ts || shows_week ts

-- a part of a date, but no date; a timestamp determines one
abbrev pub undetermined_date : List Tree → Bool
undetermined_date ts = shows_date_part ts && not (determines_date ts) && not (shows ShownField.Timestamp ts)
