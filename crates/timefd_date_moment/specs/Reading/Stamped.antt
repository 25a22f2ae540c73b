-- The moment of a timestamp, compared with all else that was read.
use Rattle.std.specs.Prelude.{ℕ, ◌≡◌, ◌+◌, ◌/◌, ◌==◌, Bool, true, false, List, [], ◌∷◌, nat_le, if◌then◌else◌, Option, Some, None, IsTrue, Result, Ok, Err}
use Rattle.timefd_date_moment.specs.declared.fields.fields.Fields.{Fields}
use Rattle.timefd_date_moment.specs.declared.fields.fields.Fraction.{Fraction}
use Rattle.timefd_date_moment.specs.Fields.Readings.{unit}
use Rattle.timefd_date_moment.specs.declared.date.Date.{Date}
use Rattle.timefd_date_moment.specs.declared.time.Time.{Time}
use Rattle.timefd_date_moment.specs.declared.offset.UtcOffset.{UtcOffset}
use Rattle.timefd_date_moment.specs.declared.unix_time.UnixTime.{UnixTime}
use Rattle.timefd_date_moment.specs.Moments.{hour_of_twelve, unix_time}
use Rattle.timefd_date_moment.specs.declared.reading.error.ValueError.{ValueError}
use Rattle.timefd_date_moment.specs.declared.reading.error.ValueError.TheVariants as error
use Rattle.timefd_date_moment.specs.declared.reading.offsets.Shift.{Shift}
use Rattle.timefd_date_moment.specs.declared.reading.part.DatePart.{DatePart}
use Rattle.timefd_date_moment.specs.declared.reading.part.TimePart.{TimePart}
use Rattle.timefd_date_moment.specs.declared.reading.part.OffsetPart.{OffsetPart}
use Rattle.timefd_date_moment.specs.declared.reading.part.InstantPart.{InstantPart}
use Rattle.timefd_date_moment.specs.declared.reading.part.Part.{Part}
use Rattle.timefd_date_moment.specs.declared.reading.part.Part.TheVariants as part
use Rattle.timefd_date_moment.specs.declared.reading.stamped.Stamped.{Stamped}
use Rattle.timefd_date_moment.specs.Reading.Faults.{shift_fault}
use Rattle.timefd_date_moment.specs.Reading.Known.{has_offset}
use Rattle.timefd_date_moment.specs.Reading.Locals.{Shows}
use Rattle.timefd_date_moment.specs.Reading.Offsets.{HasShift, shift_read}
use Rattle.timefd_date_moment.specs.Reading.Shown.{date_has, first_false, is_count, is_flag, is_shown, offset_has}
use Rattle.timefd_date_moment.specs.Reading.Stamps.{finest}
use Rattle.timefd_date_moment.specs.Reading.Ways.{IsDetermined}

-- whole seconds, rounded down
abbrev pub whole_seconds : UnixTime → ℕ
whole_seconds u =
    if u.is_negative then (u.nanoseconds + 999999999) / 1000000000 else u.nanoseconds / 1000000000

-- Seconds are rounded down, and smaller units towards zero.
abbrev pub stamp_has : Fields → UnixTime → InstantPart → Bool
stamp_has f u InstantPart.Second = is_shown f.unix_second u.is_negative u.nanoseconds (whole_seconds u)
stamp_has f u InstantPart.Millisecond =
    is_shown f.unix_millisecond u.is_negative u.nanoseconds (u.nanoseconds / 1000000)
stamp_has f u InstantPart.Microsecond =
    is_shown f.unix_microsecond u.is_negative u.nanoseconds (u.nanoseconds / 1000)
stamp_has f u InstantPart.Nanosecond =
    is_shown f.unix_nanosecond u.is_negative u.nanoseconds u.nanoseconds

-- the nanoseconds begin with the digits that were read
abbrev pub has_digits : Option Fraction → ℕ → Bool
has_digits None n = true
has_digits (Some f) n = f.nanosecond / unit f.digits == n / unit f.digits

-- Beside a timestamp, a part that wasn't read may have any value.
abbrev pub time_shows : Fields → Time → TimePart → Bool
time_shows f t TimePart.Hour = is_count f.hour t.hour
time_shows f t TimePart.Hour12 = is_count f.hour_12 (hour_of_twelve t.hour)
time_shows f t TimePart.Period = is_flag f.is_afternoon (nat_le 12 t.hour)
time_shows f t TimePart.Minute = is_count f.minute t.minute
time_shows f t TimePart.Second = is_count f.second t.second
time_shows f t TimePart.Subsecond = has_digits f.subsecond t.nanosecond

-- a part of the moment is as it was read
abbrev pub moment_has : Fields → Date → Time → UtcOffset → Part → Bool
moment_has f d t o (part.Date p) = date_has f d p
moment_has f d t o (part.Time p) = time_shows f t p
moment_has f d t o (part.Offset p) = offset_has f o p
moment_has f d t o (part.Instant p) = stamp_has f (unix_time d t o) p

-- every part of the moment is as it was read
abbrev pub MomentAgrees : Fields → Date → Time → UtcOffset → Type 0
MomentAgrees f d t o = (p : Part) → IsTrue (moment_has f d t o p)

abbrev pub moment_parts : List Part
moment_parts =
    part.Date DatePart.Day ∷ part.Date DatePart.Month ∷ part.Date DatePart.Ordinal
    ∷ part.Date DatePart.Weekday ∷ part.Date DatePart.IsoWeek ∷ part.Date DatePart.SundayWeek
    ∷ part.Date DatePart.MondayWeek ∷ part.Date DatePart.YearLastTwo ∷ part.Date DatePart.Century
    ∷ part.Date DatePart.Year ∷ part.Date DatePart.IsoYearLastTwo ∷ part.Date DatePart.IsoCentury
    ∷ part.Date DatePart.IsoYear ∷ part.Time TimePart.Hour ∷ part.Time TimePart.Hour12
    ∷ part.Time TimePart.Period ∷ part.Time TimePart.Minute ∷ part.Time TimePart.Second
    ∷ part.Time TimePart.Subsecond ∷ part.Offset OffsetPart.Hour ∷ part.Offset OffsetPart.Minute
    ∷ part.Offset OffsetPart.Second ∷ part.Instant InstantPart.Second
    ∷ part.Instant InstantPart.Millisecond ∷ part.Instant InstantPart.Microsecond
    ∷ part.Instant InstantPart.Nanosecond ∷ []

-- The offset that was read. Without one, the clock is in UTC.

abbrev pub utc_shift : Shift
utc_shift = record { is_negative = false; hour = 0; minute = 0; second = 0 }

abbrev pub zone_if : Bool → Fields → Result Shift OffsetPart
zone_if true f = shift_read f
zone_if false f = Ok utc_shift

abbrev pub zone_read : Fields → Result Shift OffsetPart
zone_read f = zone_if (has_offset f) f

-- the clock at the offset that was read shows this at the instant
abbrev pub IsAt : Fields → UnixTime → Date → Time → UtcOffset → Type 0
IsAt f u d t o = Shows u o d t × HasShift (zone_read f) o

abbrev pub IsMissing : Fields → Part → Type 0
IsMissing f (part.Date p) = ⊥
IsMissing f (part.Time p) = ⊥
IsMissing f (part.Offset p) = zone_read f ≡ Err p
IsMissing f (part.Instant p) = ⊥

-- The part at fault if no clock shows anything at the instant: the offset, if none has these numbers;
-- otherwise the timestamp, whose year is out of range.

abbrev pub part_or_stamp : Fields → Option OffsetPart → Part
part_or_stamp f (Some p) = part.Offset p
part_or_stamp f None = part.Instant (finest f)

abbrev pub stamp_fault : Fields → Result Shift OffsetPart → Option Part
stamp_fault f (Ok s) = Some (part_or_stamp f (shift_fault s))
stamp_fault f (Err p) = None

-- The first part in which the clock at the instant differs from what was read. If no clock shows
-- anything, the part at fault.
abbrev pub IsAtFault : Fields → UnixTime → Part → Type 0
IsAtFault f u p =
    ((d : Date) (t : Time) (o : UtcOffset) → IsAt f u d t o
    → first_false (moment_has f d t o) moment_parts ≡ Some p)
    × (((d : Date) (t : Time) (o : UtcOffset) → IsAt f u d t o → ⊥) → stamp_fault f (zone_read f) ≡ Some p)

-- What the clock shows at the instant agrees with all that was read. Otherwise the error names a part of
-- the offset that was not read, or the part at fault.
abbrev pub IsStamped : Fields → UnixTime → Result Stamped ValueError → Type 0
IsStamped f u (Ok s) = MomentAgrees f s.date s.time s.offset × IsAt f u s.date s.time s.offset
IsStamped f u (Err (error.Missing p)) = IsMissing f p
IsStamped f u (Err (error.Contradiction p)) = IsDetermined (zone_read f) × IsAtFault f u p
