use Rattle.std.proofs.Common.{◌≡◌, ◌+◌, ◌-◌, ◌≤◌}
use Rattle.timefd_date_moment.specs.Calendar.{days_of_months}
use Rattle.timefd_date_moment.proofs.from_day.month_and_day.Given as goal

-- the days of the months before and those that are left add up to the ordinal
abbrev pub invariant-months : goal.invariant-months
invariant-months l = (days_of_months l.year (l.month - 1) + l.day ≡ l.ordinal) × (1 ≤ l.month)
    × (l.month ≤ 12) × (1 ≤ l.day)

abbrev pub decreases-months : goal.decreases-months
decreases-months l = l.day
