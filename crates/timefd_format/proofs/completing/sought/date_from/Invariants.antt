use Rattle.std.proofs.Common.{◌≤◌, ◌+◌, ◌-◌}
use Rattle.timefd_format.specs.Completing.Sought.{NoneBelow}
use Rattle.timefd_format.proofs.completing.sought.date_from.Given as goal

-- no year before this one agrees
abbrev pub invariant-years : goal.invariant-years
invariant-years l = (l.years ≤ l.first + 402) × NoneBelow (λ d. d.years) (λ d. l.first ≤ d.years) l.fields l.years

abbrev pub decreases-years : goal.decreases-years
decreases-years l = l.first + 402 - l.years
