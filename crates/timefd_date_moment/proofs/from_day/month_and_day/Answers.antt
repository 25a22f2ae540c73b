use Rattle.std.proofs.Common.{◌<◌, ◌-◌, ◌+◌, ◌≡◌, ◌≤◌, sym, subst, arith}
use Rattle.timefd_date_moment.specs.Calendar.{days_in_month, days_of_months}
use Rattle.timefd_date_moment.proofs.CalendarLemmas.{month_left, months_none}
use Rattle.timefd_date_moment.proofs.from_day.month_and_day.Goals as goal

pub months-init : goal.months-init
months-init c = (omega (arith, months_none c.args.year), omega arith, omega arith, c.requires.first)

pub months-preserved : goal.months-preserved
months-preserved c =
    let m = c.months in
    let more : days_in_month c.args.year m.month < m.day =
    omega (arith, c.days_in_month.ensures, c.months-test.true) in
    let left = month_left c.args.year m.month m.day c.args.ordinal m.invariant.1 m.invariant.2
    m.invariant.0 c.requires.last more in
    subst (λ k. (days_of_months c.args.year (m.month + 1 - 1) + (m.day - k) ≡ c.args.ordinal)
    × (1 ≤ m.month + 1) × (m.month + 1 ≤ 12) × (1 ≤ m.day - k)) (sym c.days_in_month-in-months.ensures) left
