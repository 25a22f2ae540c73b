-- The part that the error of a value names: a missing part wasn't read, and a contradicting part was.
use Rattle.std.specs.Prelude.{◌≡◌, Bool, true, false, is_some, Err}
use Rattle.timefd_date_moment.specs.declared.fields.fields.Fields.{Fields}
use Rattle.timefd_date_moment.specs.declared.reading.error.ValueError.{ValueError}
use Rattle.timefd_date_moment.specs.declared.reading.error.ValueError.TheVariants.{Missing, Contradiction}
use Rattle.timefd_date_moment.specs.declared.reading.part.DatePart.{DatePart}
use Rattle.timefd_date_moment.specs.declared.reading.part.InstantPart.{InstantPart}
use Rattle.timefd_date_moment.specs.declared.reading.part.OffsetPart.{OffsetPart}
use Rattle.timefd_date_moment.specs.declared.reading.part.Part.{Part}
use Rattle.timefd_date_moment.specs.declared.reading.part.Part.TheVariants.{Date, Time, Offset, Instant}
use Rattle.timefd_date_moment.specs.declared.reading.part.TimePart.{TimePart}
use Rattle.timefd_date_moment.specs.Reading.Values.{IsDateOf, IsMomentOf, IsTimeOf}
use Rattle.timefd_date_moment.specs.Reading.Offsets.{IsOffsetOf}

-- whether a part was read

abbrev pub date_is_read : Fields → DatePart → Bool
date_is_read f DatePart.Day = is_some f.day
date_is_read f DatePart.Month = is_some f.month
date_is_read f DatePart.Ordinal = is_some f.ordinal
date_is_read f DatePart.Weekday = is_some f.weekday
date_is_read f DatePart.IsoWeek = is_some f.iso_week
date_is_read f DatePart.SundayWeek = is_some f.sunday_week
date_is_read f DatePart.MondayWeek = is_some f.monday_week
date_is_read f DatePart.YearLastTwo = is_some f.year_last_two
date_is_read f DatePart.Century = is_some f.century
date_is_read f DatePart.Year = is_some f.year
date_is_read f DatePart.IsoYearLastTwo = is_some f.iso_year_last_two
date_is_read f DatePart.IsoCentury = is_some f.iso_century
date_is_read f DatePart.IsoYear = is_some f.iso_year

abbrev pub time_is_read : Fields → TimePart → Bool
time_is_read f TimePart.Hour = is_some f.hour
time_is_read f TimePart.Hour12 = is_some f.hour_12
time_is_read f TimePart.Period = is_some f.is_afternoon
time_is_read f TimePart.Minute = is_some f.minute
time_is_read f TimePart.Second = is_some f.second
time_is_read f TimePart.Subsecond = is_some f.subsecond

abbrev pub offset_is_read : Fields → OffsetPart → Bool
offset_is_read f OffsetPart.Hour = is_some f.offset_hour
offset_is_read f OffsetPart.Minute = is_some f.offset_minute
offset_is_read f OffsetPart.Second = is_some f.offset_second

abbrev pub instant_is_read : Fields → InstantPart → Bool
instant_is_read f InstantPart.Second = is_some f.unix_second
instant_is_read f InstantPart.Millisecond = is_some f.unix_millisecond
instant_is_read f InstantPart.Microsecond = is_some f.unix_microsecond
instant_is_read f InstantPart.Nanosecond = is_some f.unix_nanosecond

abbrev pub is_read : Fields → Part → Bool
is_read f (Date p) = date_is_read f p
is_read f (Time p) = time_is_read f p
is_read f (Offset p) = offset_is_read f p
is_read f (Instant p) = instant_is_read f p

-- A missing part wasn't read, and a contradicting part was.
abbrev pub NamesRead : Fields → ValueError → Type 0
NamesRead f (Missing p) = is_read f p ≡ false
NamesRead f (Contradiction p) = is_read f p ≡ true

-- This holds for the errors of a date, a time of day, an offset and a moment.
pub record ErrorsNameRead : Type 0 where
  pub date : (f : Fields) (e : ValueError) → IsDateOf f (Err e) → NamesRead f e
  pub time : (f : Fields) (e : ValueError) → IsTimeOf f (Err e) → NamesRead f e
  pub offset : (f : Fields) (e : ValueError) → IsOffsetOf f (Err e) → NamesRead f e
  pub moment : (f : Fields) (e : ValueError) → IsMomentOf f (Err e) → NamesRead f e
