-- A date of `jiff` and the equal one of `timefd_date_moment` are the same day.
use Rattle.std.specs.Prelude.{◌≡◌, pos, ◌+ℤ◌}
use Rattle.jiff_core.specs.declared.civil.date.Date.{Date as JiffDate}
use Rattle.jiff_core.specs.Date.{epoch_day, weekday_of}
use Rattle.timefd_date_moment.specs.declared.date.Date.{Date}
use Rattle.timefd_date_moment.specs.Moments.{day_number, days_from_monday}
use Rattle.timefd_format.specs.FromJiff.Same.{IsSameDate}

-- Here days are counted from 1 January of the year -1,000,000, and in `jiff` from 1 January 1970.
abbrev pub SameDays : Type 0
SameDays = (j : JiffDate) (d : Date) → IsSameDate j d
    → (pos (day_number d) ≡ epoch_day j +ℤ pos 365962028) × (days_from_monday d ≡ weekday_of j)
