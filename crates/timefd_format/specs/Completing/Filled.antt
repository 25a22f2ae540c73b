-- What was read of a date with the parts that it lacks, and what was read of the time and the offset.
use Rattle.std.specs.Prelude.{ℕ, Option, Some, None}
use Rattle.timefd_date_moment.specs.Moments.{is_before_zero, magnitude}
use Rattle.timefd_date_moment.specs.declared.fields.fields.Fields.{Fields}
use Rattle.timefd_date_moment.specs.declared.fields.fields.Signed.{Signed}
use Rattle.timefd_date_moment.specs.Fields.Fields.{no_fields}

-- a year counted from the year -1,000,000, with its sign
abbrev pub signed_year : ℕ → Signed
signed_year years = record { is_negative = is_before_zero years; magnitude = magnitude years }

-- what was read, or this
abbrev pub read_or : {A : Type 0} → Option A → A → Option A
read_or (Some a) other = Some a
read_or None other = Some other

-- What was read, without a timestamp. Of the year, the month and the day, what wasn't read is as given.
abbrev pub filled : Fields → ℕ → ℕ → ℕ → Fields
filled f years month day = record f {
  year = read_or f.year (signed_year years);
  month = read_or f.month month;
  day = read_or f.day day;
  unix_second = None;
  unix_millisecond = None;
  unix_microsecond = None;
  unix_nanosecond = None;
}

-- What was read of the time of day and of the offset.
abbrev pub clock_fields : Fields → Fields
clock_fields f = record no_fields {
  hour = f.hour;
  hour_12 = f.hour_12;
  is_afternoon = f.is_afternoon;
  minute = f.minute;
  second = f.second;
  subsecond = f.subsecond;
  offset_hour = f.offset_hour;
  offset_minute = f.offset_minute;
  offset_second = f.offset_second;
}
