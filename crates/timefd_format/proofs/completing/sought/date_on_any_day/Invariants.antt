use Rattle.std.proofs.Common.{◌≡◌, ◌≤◌, ◌-◌}
use Rattle.timefd_format.specs.Completing.Sought.{NoneBelow}
use Rattle.timefd_format.proofs.completing.sought.date_on_any_day.Given as goal

-- no day before this one agrees
abbrev pub invariant-days : goal.invariant-days
invariant-days l = (l.day ≤ 32) × NoneBelow (λ d. d.day) (λ d. (d.years ≡ l.years) × (d.month ≡ l.month)) l.fields l.day

abbrev pub decreases-days : goal.decreases-days
decreases-days l = 32 - l.day
