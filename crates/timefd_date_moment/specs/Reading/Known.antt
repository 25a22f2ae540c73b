-- Which parts of a moment something was read of.
use Rattle.std.specs.Prelude.{Bool, ◌||◌, is_some}
use Rattle.timefd_date_moment.specs.declared.fields.fields.Fields.{Fields}

abbrev pub has_year : Fields → Bool
has_year f = (is_some f.year || is_some f.century) || is_some f.year_last_two

abbrev pub has_iso_year : Fields → Bool
has_iso_year f = (is_some f.iso_year || is_some f.iso_century) || is_some f.iso_year_last_two

abbrev pub has_day : Fields → Bool
has_day f = (is_some f.month || is_some f.day) || is_some f.ordinal

abbrev pub has_week : Fields → Bool
has_week f = ((is_some f.weekday || is_some f.iso_week) || is_some f.sunday_week) || is_some f.monday_week

abbrev pub has_date : Fields → Bool
has_date f = ((has_year f || has_iso_year f) || has_day f) || has_week f

abbrev pub has_hour : Fields → Bool
has_hour f = (is_some f.hour || is_some f.hour_12) || is_some f.is_afternoon

abbrev pub has_time : Fields → Bool
has_time f = ((has_hour f || is_some f.minute) || is_some f.second) || is_some f.subsecond

abbrev pub has_offset : Fields → Bool
has_offset f = (is_some f.offset_hour || is_some f.offset_minute) || is_some f.offset_second
