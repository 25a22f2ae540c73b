-- The parts determine a date in the same ways in which the reader finds one.
use Rattle.std.proofs.Common.{ℕ, ◌≡◌, Bool, true, false, ◌&&◌, ◌||◌, if◌then◌else◌, is_some, Option, Some, None, Result, Ok, Err, refl, ◌∙◌}
use Rattle.std.specs.Prelude.{is_ok}
use Rattle.timefd_date_moment.specs.declared.fields.fields.Fields.{Fields}
use Rattle.timefd_date_moment.specs.declared.fields.fields.Signed.{Signed}
use Rattle.timefd_date_moment.specs.declared.reading.part.DatePart.{DatePart}
use Rattle.timefd_date_moment.specs.Reading.Ways.{calendar, ordinal, iso_week, sunday_week, monday_week, or_else, lack, unless}
use Rattle.timefd_date_moment.specs.Reading.Years.{years_read}
use Rattle.timefd_lang_warnings.specs.declared.field.ShownField.{ShownField}
use Rattle.timefd_lang_warnings.specs.Dates.{shows_month, shows_weekday}
use Rattle.timefd_lang_warnings.specs.Reads.{IsReadOf, DeterminedAsRead}
use Rattle.timefd_lang_warnings.specs.Sought.{shows}

some_years : (y c : Option Signed) (n : Option ℕ)
    → is_some (years_read y c n) ≡ (is_some y || (is_some c && is_some n))
some_years (Some y) c n = refl
some_years None None n = refl
some_years None (Some c) None = refl
some_years None (Some c) (Some n) = refl

-- whether one of the reader's ways is possible, by what is known
abbrev ways : (y iy m d o iw wd sw mw : Bool) → Bool
ways y iy m d o iw wd sw mw =
    (y && (m && d)) || ((y && o) || ((iy && (iw && wd)) || ((y && (sw && wd)) || (y && (mw && wd)))))

abbrev in_year : (m d o wd sw mw : Bool) → Bool
in_year m d o wd sw mw = o || (m && d) || (wd && (sw || mw))

-- the ways with weeks, if there is a year
week_ways : (part : DatePart) (z : ℕ) (iy iw wd sw mw : Option ℕ)
    → is_ok (unless part (or_else (iso_week iy iw wd)
    (or_else (sunday_week (Some z) sw wd) (monday_week (Some z) mw wd))))
    ≡ ((is_some iy && (is_some iw && is_some wd))
    || ((is_some sw && is_some wd) || (is_some mw && is_some wd)))
week_ways part z None iw None None None = refl
week_ways part z (Some a) None None None None = refl
week_ways part z (Some a) (Some b) None None None = refl
week_ways part z None iw None None (Some e) = refl
week_ways part z (Some a) None None None (Some e) = refl
week_ways part z (Some a) (Some b) None None (Some e) = refl
week_ways part z None iw None (Some d) None = refl
week_ways part z (Some a) None None (Some d) None = refl
week_ways part z (Some a) (Some b) None (Some d) None = refl
week_ways part z None iw None (Some d) (Some e) = refl
week_ways part z (Some a) None None (Some d) (Some e) = refl
week_ways part z (Some a) (Some b) None (Some d) (Some e) = refl
week_ways part z None iw (Some c) None None = refl
week_ways part z (Some a) None (Some c) None None = refl
week_ways part z (Some a) (Some b) (Some c) None None = refl
week_ways part z None iw (Some c) None (Some e) = refl
week_ways part z (Some a) None (Some c) None (Some e) = refl
week_ways part z (Some a) (Some b) (Some c) None (Some e) = refl
week_ways part z None iw (Some c) (Some d) None = refl
week_ways part z (Some a) None (Some c) (Some d) None = refl
week_ways part z (Some a) (Some b) (Some c) (Some d) None = refl
week_ways part z None iw (Some c) (Some d) (Some e) = refl
week_ways part z (Some a) None (Some c) (Some d) (Some e) = refl
week_ways part z (Some a) (Some b) (Some c) (Some d) (Some e) = refl

some_way : (part : DatePart) (y iy m d o iw wd sw mw : Option ℕ)
    → is_ok (unless part (or_else (calendar y m d) (or_else (ordinal y o) (or_else (iso_week iy iw wd)
    (or_else (sunday_week y sw wd) (monday_week y mw wd))))))
    ≡ ways (is_some y) (is_some iy) (is_some m) (is_some d) (is_some o) (is_some iw) (is_some wd)
    (is_some sw) (is_some mw)
some_way part None None m d o iw wd sw mw = refl
some_way part None (Some a) m d o None wd sw mw = refl
some_way part None (Some a) m d o (Some b) None sw mw = refl
some_way part None (Some a) m d o (Some b) (Some c) sw mw = refl
some_way part (Some y) iy (Some m) (Some d) o iw wd sw mw = refl
some_way part (Some y) iy None d (Some o) iw wd sw mw = refl
some_way part (Some y) iy None d None iw wd sw mw = week_ways part y iy iw wd sw mw
some_way part (Some y) iy (Some m) None (Some o) iw wd sw mw = refl
some_way part (Some y) iy (Some m) None None iw wd sw mw = week_ways part y iy iw wd sw mw

-- the ways with weeks and a year, if no month gives the day
weeks : (x wd sw mw : Bool)
    → (x || ((sw && wd) || (mw && wd))) ≡ (if wd && (sw || mw) then true else x)
weeks true true true true = refl
weeks true true true false = refl
weeks true true false true = refl
weeks true true false false = refl
weeks true false true true = refl
weeks true false true false = refl
weeks true false false true = refl
weeks true false false false = refl
weeks false true true true = refl
weeks false true true false = refl
weeks false true false true = refl
weeks false true false false = refl
weeks false false true true = refl
weeks false false true false = refl
weeks false false false true = refl
weeks false false false false = refl

known : (p o x wd sw mw : Bool)
    → (p || (o || (x || ((sw && wd) || (mw && wd)))))
    ≡ (if o || p || (wd && (sw || mw)) then true else x)
known true true x wd sw mw = refl
known true false x wd sw mw = refl
known false true x wd sw mw = refl
known false false x wd sw mw = weeks x wd sw mw

or_false : (x : Bool) → (x || (false || false)) ≡ x
or_false true = refl
or_false false = refl

determined : (y iy m d o iw wd sw mw : Bool) → ways y iy m d o iw wd sw mw
    ≡ (if y && in_year m d o wd sw mw then true else (iy && iw && wd))
determined true true m d o true wd sw mw = known (m && d) o wd wd sw mw
determined true true m d o false wd sw mw = known (m && d) o false wd sw mw
determined true false m d o true wd sw mw = known (m && d) o false wd sw mw
determined true false m d o false wd sw mw = known (m && d) o false wd sw mw
determined false true m d o true wd sw mw = or_false wd
determined false true m d o false wd sw mw = refl
determined false false m d o true wd sw mw = refl
determined false false m d o false wd sw mw = refl

pub determined_as_read : DeterminedAsRead
determined_as_read ts f read =
    some_way (lack f (is_some (years_read f.year f.century f.year_last_two))
    (is_some (years_read f.iso_year f.iso_century f.iso_year_last_two)))
    (years_read f.year f.century f.year_last_two)
    (years_read f.iso_year f.iso_century f.iso_year_last_two)
    f.month f.day f.ordinal f.iso_week f.weekday f.sunday_week f.monday_week ∙
    (rw (some_years f.year f.century f.year_last_two)
    (rw (some_years f.iso_year f.iso_century f.iso_year_last_two)
    (rw read.year (rw read.century (rw read.year_last_two
    (rw read.iso_year (rw read.iso_century (rw read.iso_year_last_two
    (rw read.month (rw read.day (rw read.ordinal (rw read.weekday
    (rw read.iso_week (rw read.sunday_week (rw read.monday_week
    (determined (shows ShownField.Year ts || (shows ShownField.Century ts && shows ShownField.YearLastTwo ts))
    (shows ShownField.IsoYear ts || (shows ShownField.IsoCentury ts && shows ShownField.IsoYearLastTwo ts))
    (shows_month ts) (shows ShownField.Day ts) (shows ShownField.Ordinal ts) (shows ShownField.IsoWeek ts)
    (shows_weekday ts) (shows ShownField.SundayWeek ts) (shows ShownField.MondayWeek ts)))))))))))))))))
