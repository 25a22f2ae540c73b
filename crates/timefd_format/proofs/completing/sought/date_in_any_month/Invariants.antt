use Rattle.std.proofs.Common.{◌≡◌, ◌≤◌, ◌-◌}
use Rattle.timefd_format.specs.Completing.Sought.{NoneBelow}
use Rattle.timefd_format.proofs.completing.sought.date_in_any_month.Given as goal

-- no month before this one agrees
abbrev pub invariant-months : goal.invariant-months
invariant-months l = (l.month ≤ 13) × NoneBelow (λ d. d.month) (λ d. d.years ≡ l.years) l.fields l.month

abbrev pub decreases-months : goal.decreases-months
decreases-months l = 13 - l.month
