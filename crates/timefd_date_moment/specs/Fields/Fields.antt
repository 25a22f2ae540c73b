-- The fields, accessed by their names.
use Rattle.std.specs.Prelude.{ℕ, Option, Some, None}
use Rattle.timefd_date_moment.specs.declared.fields.fields.Fields.{Fields}
use Rattle.timefd_date_moment.specs.declared.fields.fields.Signed.{Signed}
use Rattle.timefd_date_moment.specs.declared.fields.fields.Count.{Count}
use Rattle.timefd_date_moment.specs.declared.fields.fields.Amount.{Amount}

-- Nothing was read.
abbrev pub no_fields : Fields
no_fields = record {
  year = None;
  century = None;
  year_last_two = None;
  iso_year = None;
  iso_century = None;
  iso_year_last_two = None;
  month = None;
  day = None;
  ordinal = None;
  weekday = None;
  iso_week = None;
  sunday_week = None;
  monday_week = None;
  hour = None;
  hour_12 = None;
  is_afternoon = None;
  minute = None;
  second = None;
  subsecond = None;
  offset_hour = None;
  offset_minute = None;
  offset_second = None;
  unix_second = None;
  unix_millisecond = None;
  unix_microsecond = None;
  unix_nanosecond = None;
}

-- The value that was read for a field without a sign.
abbrev pub count : Fields → Count → Option ℕ
count f Count.YearLastTwo = f.year_last_two
count f Count.IsoYearLastTwo = f.iso_year_last_two
count f Count.Month = f.month
count f Count.Day = f.day
count f Count.Ordinal = f.ordinal
count f Count.Weekday = f.weekday
count f Count.IsoWeek = f.iso_week
count f Count.SundayWeek = f.sunday_week
count f Count.MondayWeek = f.monday_week
count f Count.Hour = f.hour
count f Count.Hour12 = f.hour_12
count f Count.Minute = f.minute
count f Count.Second = f.second
count f Count.OffsetMinute = f.offset_minute
count f Count.OffsetSecond = f.offset_second

abbrev pub with_count : Fields → Count → ℕ → Fields
with_count f Count.YearLastTwo n = record f { year_last_two = Some n }
with_count f Count.IsoYearLastTwo n = record f { iso_year_last_two = Some n }
with_count f Count.Month n = record f { month = Some n }
with_count f Count.Day n = record f { day = Some n }
with_count f Count.Ordinal n = record f { ordinal = Some n }
with_count f Count.Weekday n = record f { weekday = Some n }
with_count f Count.IsoWeek n = record f { iso_week = Some n }
with_count f Count.SundayWeek n = record f { sunday_week = Some n }
with_count f Count.MondayWeek n = record f { monday_week = Some n }
with_count f Count.Hour n = record f { hour = Some n }
with_count f Count.Hour12 n = record f { hour_12 = Some n }
with_count f Count.Minute n = record f { minute = Some n }
with_count f Count.Second n = record f { second = Some n }
with_count f Count.OffsetMinute n = record f { offset_minute = Some n }
with_count f Count.OffsetSecond n = record f { offset_second = Some n }

-- The value that was read for a field with a sign.
abbrev pub amount : Fields → Amount → Option Signed
amount f Amount.Year = f.year
amount f Amount.Century = f.century
amount f Amount.IsoYear = f.iso_year
amount f Amount.IsoCentury = f.iso_century
amount f Amount.OffsetHour = f.offset_hour
amount f Amount.UnixSecond = f.unix_second
amount f Amount.UnixMillisecond = f.unix_millisecond
amount f Amount.UnixMicrosecond = f.unix_microsecond
amount f Amount.UnixNanosecond = f.unix_nanosecond

abbrev pub with_amount : Fields → Amount → Signed → Fields
with_amount f Amount.Year n = record f { year = Some n }
with_amount f Amount.Century n = record f { century = Some n }
with_amount f Amount.IsoYear n = record f { iso_year = Some n }
with_amount f Amount.IsoCentury n = record f { iso_century = Some n }
with_amount f Amount.OffsetHour n = record f { offset_hour = Some n }
with_amount f Amount.UnixSecond n = record f { unix_second = Some n }
with_amount f Amount.UnixMillisecond n = record f { unix_millisecond = Some n }
with_amount f Amount.UnixMicrosecond n = record f { unix_microsecond = Some n }
with_amount f Amount.UnixNanosecond n = record f { unix_nanosecond = Some n }
