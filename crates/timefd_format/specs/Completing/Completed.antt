-- The moment of fields that give part of a date.
use Rattle.std.specs.Prelude.{◌≡◌, Some, Result, Ok, Err}
use Rattle.timefd_date_moment.specs.declared.date.Date.{Date}
use Rattle.timefd_date_moment.specs.declared.moment.Moment.{Moment}
use Rattle.timefd_format.specs.declared.completing.moments.PartialError.{PartialError}
use Rattle.timefd_format.specs.declared.completing.moments.PartialError.TheVariants as fails
use Rattle.timefd_format.specs.Completing.Filled.{clock_fields}
use Rattle.timefd_format.specs.Completing.Sought.{NoneAgrees}
use Rattle.timefd_format.specs.Completing.Years.{IsOfYears, first_year}
use Rattle.timefd_date_moment.specs.declared.fields.fields.Fields.{Fields}
use Rattle.timefd_date_moment.specs.Reading.Shown.{DateAgrees}
use Rattle.timefd_date_moment.specs.Reading.Values.{IsMomentOf}

-- The date agrees with what was read of it. The time of day and the offset are those that were read.
abbrev pub IsCompleted : Fields → Result Moment PartialError → Type 0
IsCompleted f (Ok m) = (d : Date) × (rest : Moment) × DateAgrees f d × IsMomentOf (clock_fields f) (Ok rest)
    × (m ≡ record { date = Some d; time = rest.time; offset = rest.offset })
IsCompleted f (Err fails.NoDate) = NoneAgrees (IsOfYears (first_year f)) f
IsCompleted f (Err (fails.Value e)) = IsMomentOf (clock_fields f) (Err e)
