-- The offset from UTC that fields determine.
use Rattle.std.specs.Prelude.{◌≡◌, ◌⊎◌, ◌/◌, ◌%◌, if◌then◌else◌, Option, Some, None, is_some, Result, Ok, Err}
use Rattle.timefd_date_moment.specs.declared.fields.fields.Fields.{Fields}
use Rattle.timefd_date_moment.specs.declared.fields.fields.Signed.{Signed}
use Rattle.timefd_date_moment.specs.declared.offset.UtcOffset.{UtcOffset}
use Rattle.timefd_date_moment.specs.declared.reading.error.ValueError.{ValueError}
use Rattle.timefd_date_moment.specs.declared.reading.error.ValueError.TheVariants as error
use Rattle.timefd_date_moment.specs.declared.reading.part.OffsetPart.{OffsetPart}
use Rattle.timefd_date_moment.specs.declared.reading.part.Part.{Part}
use Rattle.timefd_date_moment.specs.declared.reading.part.Part.TheVariants as part
use Rattle.timefd_date_moment.specs.declared.reading.offsets.Shift.{Shift}
use Rattle.timefd_date_moment.specs.Reading.Faults.{IsNamed, offset_fault}
use Rattle.timefd_date_moment.specs.Reading.Shown.{OffsetAgrees, first_false, offset_has, offset_parts}
use Rattle.timefd_date_moment.specs.Reading.Ways.{IsDetermined}
use Rattle.timefd_date_moment.specs.Reading.Times.{is_left_out, number}

-- seconds aren't read without minutes
abbrev pub shift_at : Fields → Option Signed → Result Shift OffsetPart
shift_at f None = Err OffsetPart.Hour
shift_at f (Some h) =
    if is_left_out f.offset_minute (is_some f.offset_second) then Err OffsetPart.Minute
    else Ok (record {
      is_negative = h.is_negative;
      hour = h.magnitude;
      minute = number f.offset_minute;
      second = number f.offset_second;
    })

-- the numbers of the offset that the fields determine, or the part that was not read
abbrev pub shift_read : Fields → Result Shift OffsetPart
shift_read f = shift_at f f.offset_hour

abbrev pub ShiftHas : Shift → UtcOffset → Type 0
ShiftHas s o = (s.hour ≡ o.seconds / 3600) × (s.minute ≡ o.seconds / 60 % 60)
    × (s.second ≡ o.seconds % 60) × ((o.seconds ≡ 0) ⊎ (s.is_negative ≡ o.is_negative))

abbrev pub IsSame : UtcOffset → UtcOffset → Type 0
IsSame o p = (o.seconds ≡ p.seconds) × (o.is_negative ≡ p.is_negative)

-- the only offset of this kind; or a part that no offset has, if there is none of the kind
abbrev pub Selects : (UtcOffset → Type 0) → Result UtcOffset OffsetPart → Type 0
Selects Is (Ok o) = (p : UtcOffset) → Is p → IsSame o p
Selects Is (Err part) = (p : UtcOffset) → Is p → ⊥

abbrev pub IsMissing : Fields → Part → Type 0
IsMissing f (part.Date p) = ⊥
IsMissing f (part.Time p) = ⊥
IsMissing f (part.Offset p) = shift_read f ≡ Err p
IsMissing f (part.Instant p) = ⊥

-- the offset has the fields that determine one
abbrev pub HasShift : Result Shift OffsetPart → UtcOffset → Type 0
HasShift (Ok s) o = ShiftHas s o
HasShift (Err p) o = ⊥

-- The first part in which the offset of these numbers differs from what was read. If no offset has them,
-- the first number that none has.
abbrev pub IsAtFault : Fields → Part → Type 0
IsAtFault f (part.Date p) = ⊥
IsAtFault f (part.Time p) = ⊥
IsAtFault f (part.Offset p) =
    IsNamed (HasShift (shift_read f)) (λ o. first_false (offset_has f o) offset_parts)
    (offset_fault (shift_read f)) p
IsAtFault f (part.Instant p) = ⊥

-- The offset that agrees with all that was read, if the fields determine one. Otherwise the error names
-- what was not read, or the part at fault if no offset agrees with all of it.
abbrev pub IsOffsetOf : Fields → Result UtcOffset ValueError → Type 0
IsOffsetOf f (Ok o) = OffsetAgrees f o × IsDetermined (shift_read f)
IsOffsetOf f (Err (error.Missing p)) = IsMissing f p
IsOffsetOf f (Err (error.Contradiction p)) =
    IsDetermined (shift_read f) × ((o : UtcOffset) → OffsetAgrees f o → ⊥) × IsAtFault f p
