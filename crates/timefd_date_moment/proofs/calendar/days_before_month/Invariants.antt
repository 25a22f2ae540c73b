use Rattle.std.proofs.Common.{◌≡◌, ◌-◌, ◌≤◌, ◌*◌}
use Rattle.timefd_date_moment.specs.Calendar.{days_of_months}
use Rattle.timefd_date_moment.proofs.calendar.days_before_month.Given as goal

-- the days of the months so far, at most 31 of each
abbrev pub invariant-loop-earlier : goal.invariant-loop-earlier
invariant-loop-earlier l =
    (l.days ≡ days_of_months l.year (l.earlier - 1)) × (l.days ≤ 31 * (l.earlier - 1))
