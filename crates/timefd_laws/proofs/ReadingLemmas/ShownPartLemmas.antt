-- The parts of the fields that are shown.
use Rattle.std.proofs.Common.{ℕ, ◌≡◌, ◌/◌, ◌%◌, ◌∙◌, Bool, true, false, nat_le, Option, Some, None, refl, sym}
use Rattle.std.specs.Prelude.{is_some}
use Rattle.timefd_date_moment.specs.declared.date.Date.{Date}
use Rattle.timefd_date_moment.specs.declared.time.Time.{Time}
use Rattle.timefd_date_moment.specs.declared.offset.UtcOffset.{UtcOffset}
use Rattle.timefd_date_moment.specs.Moments.{date_ordinal, days_from_monday, hour_of_twelve, iso_week, iso_years, magnitude}
use Rattle.timefd_date_moment.specs.Moments.{monday_week, sunday_week, unix_time}
use Rattle.timefd_date_moment.specs.declared.fields.fields.Fields.{Fields}
use Rattle.timefd_date_moment.specs.Reading.Stamped.{whole_seconds}
use Rattle.timefd_laws.specs.Reading.Again.{digits_of, parts}
use Rattle.timefd_laws.specs.Reading.Shown.{Shows, cut_where, fields_shown, if_shown, with_sign, year_part}

some_shown : {A : Type 0} (b : Bool) (a : A) → is_some (if_shown b a) ≡ b
some_shown true a = refl
some_shown false a = refl

digits_cut : (digits : Option ℕ) (n : ℕ) → digits_of (cut_where digits n) ≡ digits
digits_cut None n = refl
digits_cut (Some k) n = refl

pub parts_shown : (d : Date) (t : Time) (o : UtcOffset) (s : Shows) → parts (fields_shown d t o s) ≡ s
parts_shown d t o s = λ i. record {
  year = some_shown s.year (year_part d.years 1) i;
  century = some_shown s.century (year_part d.years 100) i;
  year_last_two = some_shown s.year_last_two (magnitude d.years % 100) i;
  iso_year = some_shown s.iso_year (year_part (iso_years d) 1) i;
  iso_century = some_shown s.iso_century (year_part (iso_years d) 100) i;
  iso_year_last_two = some_shown s.iso_year_last_two (magnitude (iso_years d) % 100) i;
  month = some_shown s.month d.month i;
  day = some_shown s.day d.day i;
  ordinal = some_shown s.ordinal (date_ordinal d) i;
  weekday = some_shown s.weekday (days_from_monday d) i;
  iso_week = some_shown s.iso_week (iso_week d) i;
  sunday_week = some_shown s.sunday_week (sunday_week d) i;
  monday_week = some_shown s.monday_week (monday_week d) i;
  hour = some_shown s.hour t.hour i;
  hour_12 = some_shown s.hour_12 (hour_of_twelve t.hour) i;
  is_afternoon = some_shown s.is_afternoon (nat_le 12 t.hour) i;
  minute = some_shown s.minute t.minute i;
  second = some_shown s.second t.second i;
  subsecond = digits_cut s.subsecond t.nanosecond i;
  offset_hour = some_shown s.offset_hour (with_sign o.is_negative (o.seconds / 3600)) i;
  offset_minute = some_shown s.offset_minute (o.seconds / 60 % 60) i;
  offset_second = some_shown s.offset_second (o.seconds % 60) i;
  unix_second = some_shown s.unix_second (with_sign (unix_time d t o).is_negative (whole_seconds (unix_time d t o))) i;
  unix_millisecond = some_shown s.unix_millisecond
      (with_sign (unix_time d t o).is_negative ((unix_time d t o).nanoseconds / 1000000)) i;
  unix_microsecond = some_shown s.unix_microsecond
      (with_sign (unix_time d t o).is_negative ((unix_time d t o).nanoseconds / 1000)) i;
  unix_nanosecond = some_shown s.unix_nanosecond (with_sign (unix_time d t o).is_negative (unix_time d t o).nanoseconds) i;
}

-- The parts that were read are the parts of the fields that are shown for them.
pub same_shown : (d : Date) (t : Time) (o : UtcOffset) (f : Fields) (s : Shows) → parts f ≡ s
    → parts f ≡ parts (fields_shown d t o s)
same_shown d t o f s e = e ∙ sym (parts_shown d t o s)
