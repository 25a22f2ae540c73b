-- A date that agrees with what was read.
use Rattle.std.specs.Prelude.{ℕ, ◌<◌, Option, Some, None}
use Rattle.timefd_date_moment.specs.declared.date.Date.{Date}
use Rattle.timefd_date_moment.specs.declared.fields.fields.Fields.{Fields}
use Rattle.timefd_date_moment.specs.Reading.Shown.{DateAgrees}

-- No date of this kind agrees with what was read.
abbrev pub NoneAgrees : (Date → Type 0) → Fields → Type 0
NoneAgrees Is f = (d : Date) → Is d → DateAgrees f d → ⊥

-- A date that agrees with what was read. `None` if no date of this kind does.
abbrev pub IsSought : (Date → Type 0) → Fields → Option Date → Type 0
IsSought Is f (Some d) = DateAgrees f d
IsSought Is f None = NoneAgrees Is f

-- No date of this kind agrees whose number is below this one.
abbrev pub NoneBelow : (Date → ℕ) → (Date → Type 0) → Fields → ℕ → Type 0
NoneBelow number Is f n = (d : Date) → Is d → number d < n → DateAgrees f d → ⊥
