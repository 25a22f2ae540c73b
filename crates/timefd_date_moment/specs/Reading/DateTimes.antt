-- The date and the time of day that fields determine.
use Rattle.std.specs.Prelude.{◌⊎◌, Result, Ok, Err}
use Rattle.timefd_date_moment.specs.declared.fields.fields.Fields.{Fields}
use Rattle.timefd_date_moment.specs.declared.date.Date.{Date}
use Rattle.timefd_date_moment.specs.declared.time.Time.{Time}
use Rattle.timefd_date_moment.specs.declared.reading.error.ValueError.{ValueError}
use Rattle.timefd_date_moment.specs.Reading.Values.{IsDateOf, IsTimeOf}

-- The date and the time. The error is that of the date, or else that of the time.
abbrev pub IsDateTimeOf : Fields → Result (Date × Time) ValueError → Type 0
IsDateTimeOf f (Ok r) = IsDateOf f (Ok r.0) × IsTimeOf f (Ok r.1)
IsDateTimeOf f (Err e) =
    IsDateOf f (Err e) ⊎ (((date : Date) × IsDateOf f (Ok date)) × IsTimeOf f (Err e))
