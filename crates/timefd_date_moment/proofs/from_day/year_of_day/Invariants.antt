use Rattle.std.proofs.Common.{◌-◌, ◌≤◌}
use Rattle.timefd_date_moment.specs.Calendar.{days_of_years}
use Rattle.timefd_date_moment.proofs.from_day.year_of_day.Given as goal

-- the year begins on the day or before it
abbrev pub invariant-years : goal.invariant-years
invariant-years l = (days_of_years l.year ≤ l.number) × (l.year ≤ 1999999)

abbrev pub decreases-years : goal.decreases-years
decreases-years l = 2000000 - l.year
