-- The date that its own fields determine.
use Rattle.std.specs.Prelude.{◌≡◌, Option, Some, None, Result, Ok, Err}
use Rattle.timefd_date_moment.specs.declared.fields.fields.Fields.{Fields}
use Rattle.timefd_date_moment.specs.declared.date.Date.{Date}
use Rattle.timefd_date_moment.specs.declared.reading.error.ValueError.{ValueError}
use Rattle.timefd_date_moment.specs.declared.reading.error.ValueError.TheVariants as error
use Rattle.timefd_date_moment.specs.declared.reading.part.DatePart.{DatePart}
use Rattle.timefd_date_moment.specs.declared.reading.way.DateWay.{DateWay}
use Rattle.timefd_date_moment.specs.declared.reading.part.Part.{Part}
use Rattle.timefd_date_moment.specs.declared.reading.part.Part.TheVariants as part
use Rattle.timefd_date_moment.specs.Reading.Faults.{IsNamed, date_fault}
use Rattle.timefd_date_moment.specs.Reading.Shown.{DateAgrees, date_has, date_parts, first_false}
use Rattle.timefd_date_moment.specs.Reading.Ways.{IsDetermined, WayHas, date_way}

abbrev pub IsSame : Date → Date → Type 0
IsSame d e = (d.years ≡ e.years) × (d.month ≡ e.month) × (d.day ≡ e.day)

-- This date, or none, is the only one of the kind.
abbrev pub Selects : (Date → Type 0) → Option Date → Type 0
Selects Is (Some e) = (d : Date) → Is d → IsSame e d
Selects Is None = (d : Date) → Is d → ⊥

abbrev pub IsMissing : Fields → Part → Type 0
IsMissing f (part.Date p) = date_way f ≡ Err p
IsMissing f (part.Time p) = ⊥
IsMissing f (part.Offset p) = ⊥
IsMissing f (part.Instant p) = ⊥

-- the date has the fields that determine one
abbrev pub HasWay : Result DateWay DatePart → Date → Type 0
HasWay (Ok w) d = WayHas w d
HasWay (Err p) d = ⊥

-- The first part in which the date of these fields differs from what was read. If no date has them, the
-- part at fault.
abbrev pub IsAtFault : Fields → Part → Type 0
IsAtFault f (part.Date p) =
    IsNamed (HasWay (date_way f)) (λ d. first_false (date_has f d) date_parts) (date_fault f (date_way f)) p
IsAtFault f (part.Time p) = ⊥
IsAtFault f (part.Offset p) = ⊥
IsAtFault f (part.Instant p) = ⊥

-- The date that agrees with all that was read, if the fields determine one. Otherwise the error names
-- what was not read, or the part at fault if no date agrees with all of it.
abbrev pub IsDateByParts : Fields → Result Date ValueError → Type 0
IsDateByParts f (Ok d) = DateAgrees f d × IsDetermined (date_way f)
IsDateByParts f (Err (error.Missing part)) = IsMissing f part
IsDateByParts f (Err (error.Contradiction p)) =
    IsDetermined (date_way f) × ((d : Date) → DateAgrees f d → ⊥) × IsAtFault f p
