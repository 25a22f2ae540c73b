-- The ways in which fields determine a date.
use Rattle.std.specs.Prelude.{ℕ, ◌≡◌, ◌==◌, ◌&&◌, Bool, ◌||◌, if◌then◌else◌, Option, Some, None, is_some, Result, Ok, Err, ⊤}
use Rattle.timefd_date_moment.specs.declared.fields.fields.Fields.{Fields}
use Rattle.timefd_date_moment.specs.declared.date.Date.{Date}
use Rattle.timefd_date_moment.specs.Moments as of
use Rattle.timefd_date_moment.specs.declared.reading.part.DatePart.{DatePart}
use Rattle.timefd_date_moment.specs.declared.reading.way.DateWay.{DateWay}
use Rattle.timefd_date_moment.specs.declared.reading.way.DateWay.TheVariants as by
use Rattle.timefd_date_moment.specs.Reading.Years.{years_read}

-- The fields of a way, if all of them were read.

abbrev pub calendar : Option ℕ → Option ℕ → Option ℕ → Option DateWay
calendar None month day = None
calendar (Some y) None day = None
calendar (Some y) (Some m) None = None
calendar (Some y) (Some m) (Some d) = Some (by.Calendar y m d)

abbrev pub ordinal : Option ℕ → Option ℕ → Option DateWay
ordinal None position = None
ordinal (Some y) None = None
ordinal (Some y) (Some n) = Some (by.Ordinal y n)

abbrev pub iso_week : Option ℕ → Option ℕ → Option ℕ → Option DateWay
iso_week None week weekday = None
iso_week (Some y) None weekday = None
iso_week (Some y) (Some w) None = None
iso_week (Some y) (Some w) (Some d) = Some (by.IsoWeek y w d)

abbrev pub sunday_week : Option ℕ → Option ℕ → Option ℕ → Option DateWay
sunday_week None week weekday = None
sunday_week (Some y) None weekday = None
sunday_week (Some y) (Some w) None = None
sunday_week (Some y) (Some w) (Some d) = Some (by.SundayWeek y w d)

abbrev pub monday_week : Option ℕ → Option ℕ → Option ℕ → Option DateWay
monday_week None week weekday = None
monday_week (Some y) None weekday = None
monday_week (Some y) (Some w) None = None
monday_week (Some y) (Some w) (Some d) = Some (by.MondayWeek y w d)

abbrev pub or_else : Option DateWay → Option DateWay → Option DateWay
or_else (Some way) other = Some way
or_else None other = other

-- A date is determined by year, month and day; by year and ordinal; by ISO year, ISO week and weekday; or
-- by year, week from Sunday or from Monday, and weekday.
abbrev pub way_of : Fields → Option ℕ → Option ℕ → Option DateWay
way_of f years iso_years =
    or_else (calendar years f.month f.day) (or_else (ordinal years f.ordinal)
    (or_else (iso_week iso_years f.iso_week f.weekday)
    (or_else (sunday_week years f.sunday_week f.weekday) (monday_week years f.monday_week f.weekday))))

-- The part that is missing, given what was read.

abbrev pub lack_of_year : Fields → DatePart
lack_of_year f =
    if is_some f.century then DatePart.YearLastTwo
    else (if is_some f.year_last_two then DatePart.Century else DatePart.Year)

abbrev pub lack_in_year : Fields → DatePart
lack_in_year f =
    if is_some f.month then DatePart.Day
    else (if is_some f.sunday_week || is_some f.monday_week then DatePart.Weekday else DatePart.Month)

abbrev pub lack : Fields → Bool → Bool → DatePart
lack f has_year has_iso_year =
    if is_some f.iso_week then (if has_iso_year then DatePart.Weekday else DatePart.IsoYear)
    else (if has_year then lack_in_year f
    else (if has_iso_year then DatePart.IsoWeek else lack_of_year f))

abbrev pub unless : DatePart → Option DateWay → Result DateWay DatePart
unless part (Some way) = Ok way
unless part None = Err part

abbrev pub way_in : Fields → Option ℕ → Option ℕ → Result DateWay DatePart
way_in f years iso_years =
    unless (lack f (is_some years) (is_some iso_years)) (way_of f years iso_years)

-- the first way in which the fields determine a date, or the part that was not read
abbrev pub date_way : Fields → Result DateWay DatePart
date_way f = way_in f (years_read f.year f.century f.year_last_two)
    (years_read f.iso_year f.iso_century f.iso_year_last_two)

-- the fields determine a value
abbrev pub IsDetermined : {A : Type 0} {E : Type 0} → Result A E → Type 0
IsDetermined (Ok way) = ⊤
IsDetermined (Err part) = ⊥

abbrev pub way_years : DateWay → ℕ
way_years (by.Calendar y m d) = y
way_years (by.Ordinal y n) = y
way_years (by.IsoWeek y w d) = y
way_years (by.SundayWeek y w d) = y
way_years (by.MondayWeek y w d) = y

-- a date has these fields, as a test

abbrev pub has_way : DateWay → Date → Bool
has_way (by.Calendar y m n) d = ((y == d.years) && (m == d.month)) && (n == d.day)
has_way (by.Ordinal y n) d = (y == d.years) && (n == of.date_ordinal d)
has_way (by.IsoWeek y w n) d =
    ((y == of.iso_years d) && (w == of.iso_week d)) && (n == of.days_from_monday d)
has_way (by.SundayWeek y w n) d =
    ((y == d.years) && (w == of.sunday_week d)) && (n == of.days_from_monday d)
has_way (by.MondayWeek y w n) d =
    ((y == d.years) && (w == of.monday_week d)) && (n == of.days_from_monday d)

-- a date has these fields
abbrev pub WayHas : DateWay → Date → Type 0
WayHas (by.Calendar y m n) d = (y ≡ d.years) × (m ≡ d.month) × (n ≡ d.day)
WayHas (by.Ordinal y n) d = (y ≡ d.years) × (n ≡ of.date_ordinal d)
WayHas (by.IsoWeek y w n) d =
    (y ≡ of.iso_years d) × (w ≡ of.iso_week d) × (n ≡ of.days_from_monday d)
WayHas (by.SundayWeek y w n) d =
    (y ≡ d.years) × (w ≡ of.sunday_week d) × (n ≡ of.days_from_monday d)
WayHas (by.MondayWeek y w n) d =
    (y ≡ d.years) × (w ≡ of.monday_week d) × (n ≡ of.days_from_monday d)
