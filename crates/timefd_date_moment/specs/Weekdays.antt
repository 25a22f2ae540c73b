-- The days of the week.
use Rattle.std.specs.Prelude.{ℕ, List, codes}
use Rattle.timefd_date_moment.specs.declared.weekday.Weekday.{Weekday}
use Rattle.timefd_date_moment.specs.declared.weekday.Weekday.TheVariants as of

-- the number of days after Monday
abbrev pub days_after_monday : Weekday → ℕ
days_after_monday of.Monday = 0
days_after_monday of.Tuesday = 1
days_after_monday of.Wednesday = 2
days_after_monday of.Thursday = 3
days_after_monday of.Friday = 4
days_after_monday of.Saturday = 5
days_after_monday of.Sunday = 6

abbrev pub name : Weekday → List ℕ
name of.Monday = codes "Monday"
name of.Tuesday = codes "Tuesday"
name of.Wednesday = codes "Wednesday"
name of.Thursday = codes "Thursday"
name of.Friday = codes "Friday"
name of.Saturday = codes "Saturday"
name of.Sunday = codes "Sunday"
