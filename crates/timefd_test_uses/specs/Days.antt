-- The moment of a date.
use Rattle.std.specs.Prelude.{Some, None}
use Rattle.timefd_date_moment.specs.declared.date.Date.{Date}
use Rattle.timefd_date_moment.specs.declared.moment.Moment.{Moment}

-- only the date is known
abbrev pub day_alone : Date → Moment
day_alone date = record { date = Some date; time = None; offset = None }
