use Rattle.std.proofs.Common.{◌-◌, ◌≡◌, ◌≤◌, length, take}
use Rattle.timefd_date_format.proofs.fraction.fewest.Given as goal
use Rattle.timefd_lang_component.specs.Texts.{trimmed}

-- Only zeros follow these digits.
abbrev pub invariant-zeros : goal.invariant-zeros
invariant-zeros l =
    (1 ≤ l.len) × (l.len ≤ 9) × (length l.nine ≡ 9) × (trimmed (take l.len l.nine) ≡ trimmed l.nine)

abbrev pub decreases-zeros : goal.decreases-zeros
decreases-zeros l = l.len - 1
