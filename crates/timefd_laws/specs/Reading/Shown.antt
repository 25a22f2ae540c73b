-- Which fields a description shows, and their values for a moment.
use Rattle.std.specs.Prelude.{ℕ, ◌≡◌, ◌*◌, ◌/◌, ◌%◌, Bool, true, false, nat_le, if◌then◌else◌, Option, Some, None, IfSome}
use Rattle.timefd_lang_component.specs.declared.component.Component.{Component}
use Rattle.timefd_lang_component.specs.declared.component.Component.TheVariants as of
use Rattle.timefd_lang_component.specs.Modern.{modern}
use Rattle.timefd_lang_component.specs.Reserved.{digits_shown}
use Rattle.timefd_lang_component.specs.Tree.{Tree, component, literal, compound, optional, first, Trees, no_trees, more_trees}
use Rattle.timefd_date_moment.specs.declared.date.Date.{Date}
use Rattle.timefd_date_moment.specs.declared.time.Time.{Time}
use Rattle.timefd_date_moment.specs.declared.offset.UtcOffset.{UtcOffset}
use Rattle.timefd_date_moment.specs.declared.moment.Moment.{Moment}
use Rattle.timefd_date_moment.specs.Moments.{date_ordinal, days_from_monday, iso_years, iso_week, sunday_week, monday_week}
use Rattle.timefd_date_moment.specs.Moments.{magnitude, is_before_zero, hour_of_twelve, unix_time}
use Rattle.timefd_date_moment.specs.declared.fields.fields.Fields.{Fields}
use Rattle.timefd_date_moment.specs.declared.fields.fields.Fraction.{Fraction}
use Rattle.timefd_date_moment.specs.declared.fields.fields.Signed.{Signed}
use Rattle.timefd_date_moment.specs.Fields.Readings.{unit}
use Rattle.timefd_date_moment.specs.Reading.Stamped.{whole_seconds}

-- the parts that a moment has are this date, this time of day and this offset
abbrev pub IsOf : Moment → Date → Time → UtcOffset → Type 0
IsOf m d t o = IfSome m.date (λ e. e ≡ d) × IfSome m.time (λ u. u ≡ t) × IfSome m.offset (λ p. p ≡ o)

-- Which fields are shown, and how many digits of a second's fraction.
pub record Shows : Type 0 where
  pub year : Bool
  pub century : Bool
  pub year_last_two : Bool
  pub iso_year : Bool
  pub iso_century : Bool
  pub iso_year_last_two : Bool
  pub month : Bool
  pub day : Bool
  pub ordinal : Bool
  pub weekday : Bool
  pub iso_week : Bool
  pub sunday_week : Bool
  pub monday_week : Bool
  pub hour : Bool
  pub hour_12 : Bool
  pub is_afternoon : Bool
  pub minute : Bool
  pub second : Bool
  pub subsecond : Option ℕ
  pub offset_hour : Bool
  pub offset_minute : Bool
  pub offset_second : Bool
  pub unix_second : Bool
  pub unix_millisecond : Bool
  pub unix_microsecond : Bool
  pub unix_nanosecond : Bool

abbrev pub shows_nothing : Shows
shows_nothing = record {
  year = false;
  century = false;
  year_last_two = false;
  iso_year = false;
  iso_century = false;
  iso_year_last_two = false;
  month = false;
  day = false;
  ordinal = false;
  weekday = false;
  iso_week = false;
  sunday_week = false;
  monday_week = false;
  hour = false;
  hour_12 = false;
  is_afternoon = false;
  minute = false;
  second = false;
  subsecond = None;
  offset_hour = false;
  offset_minute = false;
  offset_second = false;
  unix_second = false;
  unix_millisecond = false;
  unix_microsecond = false;
  unix_nanosecond = false;
}

-- The values of the fields.

abbrev pub if_shown : {A : Type 0} → Bool → A → Option A
if_shown true a = Some a
if_shown false a = None

-- A part of a number has the sign of the whole number.

abbrev pub with_sign : Bool → ℕ → Signed
with_sign is_negative n = record { is_negative = is_negative; magnitude = n }

abbrev pub year_part : ℕ → ℕ → Signed
year_part years unit = with_sign (is_before_zero years) (magnitude years / unit)

-- n nanoseconds, cut off after this many digits of a second's fraction
abbrev pub cut : ℕ → ℕ → Fraction
cut digits n = record { digits = digits; nanosecond = n / unit digits * unit digits }

abbrev pub cut_where : Option ℕ → ℕ → Option Fraction
cut_where None n = None
cut_where (Some digits) n = Some (cut digits n)

-- the values of a moment for the fields that are shown
abbrev pub fields_shown : Date → Time → UtcOffset → Shows → Fields
fields_shown d t o s = record {
  year = if_shown s.year (year_part d.years 1);
  century = if_shown s.century (year_part d.years 100);
  year_last_two = if_shown s.year_last_two (magnitude d.years % 100);
  iso_year = if_shown s.iso_year (year_part (iso_years d) 1);
  iso_century = if_shown s.iso_century (year_part (iso_years d) 100);
  iso_year_last_two = if_shown s.iso_year_last_two (magnitude (iso_years d) % 100);
  month = if_shown s.month d.month;
  day = if_shown s.day d.day;
  ordinal = if_shown s.ordinal (date_ordinal d);
  weekday = if_shown s.weekday (days_from_monday d);
  iso_week = if_shown s.iso_week (iso_week d);
  sunday_week = if_shown s.sunday_week (sunday_week d);
  monday_week = if_shown s.monday_week (monday_week d);
  hour = if_shown s.hour t.hour;
  hour_12 = if_shown s.hour_12 (hour_of_twelve t.hour);
  is_afternoon = if_shown s.is_afternoon (nat_le 12 t.hour);
  minute = if_shown s.minute t.minute;
  second = if_shown s.second t.second;
  subsecond = cut_where s.subsecond t.nanosecond;
  offset_hour = if_shown s.offset_hour (with_sign o.is_negative (o.seconds / 3600));
  offset_minute = if_shown s.offset_minute (o.seconds / 60 % 60);
  offset_second = if_shown s.offset_second (o.seconds % 60);
  unix_second =
      if_shown s.unix_second (with_sign (unix_time d t o).is_negative (whole_seconds (unix_time d t o)));
  unix_millisecond =
      if_shown s.unix_millisecond (with_sign (unix_time d t o).is_negative ((unix_time d t o).nanoseconds / 1000000));
  unix_microsecond =
      if_shown s.unix_microsecond (with_sign (unix_time d t o).is_negative ((unix_time d t o).nanoseconds / 1000));
  unix_nanosecond =
      if_shown s.unix_nanosecond (with_sign (unix_time d t o).is_negative (unix_time d t o).nanoseconds);
}

-- Which fields are shown.

abbrev pub more_digits : Option ℕ → ℕ → ℕ
more_digits None b = b
more_digits (Some a) b = if nat_le a b then b else a

-- what is shown with one more modern component
abbrev pub with_component : Component → Shows → Shows
with_component (of.Day m) s = record s { day = true }
with_component (of.MonthShort m) s = record s { month = true }
with_component (of.MonthLong m) s = record s { month = true }
with_component (of.MonthNumerical m) s = record s { month = true }
with_component (of.Ordinal m) s = record s { ordinal = true }
with_component (of.WeekdayShort m) s = record s { weekday = true }
with_component (of.WeekdayLong m) s = record s { weekday = true }
with_component (of.WeekdaySunday m) s = record s { weekday = true }
with_component (of.WeekdayMonday m) s = record s { weekday = true }
with_component (of.WeekNumberIso m) s = record s { iso_week = true }
with_component (of.WeekNumberSunday m) s = record s { sunday_week = true }
with_component (of.WeekNumberMonday m) s = record s { monday_week = true }
with_component (of.CalendarYearFullExtendedRange m) s = record s { year = true }
with_component (of.CalendarYearFullStandardRange m) s = record s { year = true }
with_component (of.CalendarYearCenturyExtendedRange m) s = record s { century = true }
with_component (of.CalendarYearCenturyStandardRange m) s = record s { century = true }
with_component (of.IsoYearFullExtendedRange m) s = record s { iso_year = true }
with_component (of.IsoYearFullStandardRange m) s = record s { iso_year = true }
with_component (of.IsoYearCenturyExtendedRange m) s = record s { iso_century = true }
with_component (of.IsoYearCenturyStandardRange m) s = record s { iso_century = true }
with_component (of.CalendarYearLastTwo m) s = record s { year_last_two = true }
with_component (of.IsoYearLastTwo m) s = record s { iso_year_last_two = true }
with_component (of.Hour12 m) s = record s { hour_12 = true }
with_component (of.Hour24 m) s = record s { hour = true }
with_component (of.Minute m) s = record s { minute = true }
with_component (of.Second m) s = record s { second = true }
with_component (of.OffsetMinute m) s = record s { offset_minute = true }
with_component (of.OffsetSecond m) s = record s { offset_second = true }
with_component (of.Period m) s = record s { is_afternoon = true }
with_component (of.Subsecond m) s =
    record s { subsecond = Some (more_digits s.subsecond (digits_shown m.digits)) }
with_component (of.OffsetHour m) s = record s { offset_hour = true }
with_component (of.UnixTimestampSecond m) s = record s { unix_second = true }
with_component (of.UnixTimestampMillisecond m) s = record s { unix_millisecond = true }
with_component (of.UnixTimestampMicrosecond m) s = record s { unix_microsecond = true }
with_component (of.UnixTimestampNanosecond m) s = record s { unix_nanosecond = true }
with_component (of.Ignore m) s = s
with_component (of.End m) s = s
with_component deprecated s = s

-- what is shown with one more description; of alternatives a formatter writes the first
abbrev mutual
  pub with_tree : Tree → Shows → Shows
  with_tree (component c) s = with_component (modern c) s
  with_tree (literal bytes) s = s
  with_tree (compound ts) s = with_trees ts s
  with_tree (optional format t) s = if format then with_tree t s else s
  with_tree (first ts) s = with_first ts s

  pub with_trees : Trees → Shows → Shows
  with_trees no_trees s = s
  with_trees (more_trees t ts) s = with_trees ts (with_tree t s)

  pub with_first : Trees → Shows → Shows
  with_first no_trees s = s
  with_first (more_trees t ts) s = with_tree t s

abbrev pub shows : Tree → Shows
shows t = with_tree t shows_nothing
