-- The values that fields determine: by the instant of a timestamp, or else by their parts.
use Rattle.std.specs.Prelude.{◌≡◌, ◌⊎◌, ⊤, Bool, true, false, Option, Some, None, Result, Ok, Err}
use Rattle.timefd_date_moment.specs.declared.fields.fields.Fields.{Fields}
use Rattle.timefd_date_moment.specs.declared.date.Date.{Date}
use Rattle.timefd_date_moment.specs.declared.time.Time.{Time}
use Rattle.timefd_date_moment.specs.declared.offset.UtcOffset.{UtcOffset}
use Rattle.timefd_date_moment.specs.declared.moment.Moment.{Moment}
use Rattle.timefd_date_moment.specs.declared.unix_time.UnixTime.{UnixTime}
use Rattle.timefd_date_moment.specs.Moments.{unix_time}
use Rattle.timefd_date_moment.specs.declared.reading.error.ValueError.{ValueError}
use Rattle.timefd_date_moment.specs.declared.reading.stamped.Stamped.{Stamped}
use Rattle.timefd_date_moment.specs.Reading.Dates.{IsDateByParts}
use Rattle.timefd_date_moment.specs.Reading.Known.{has_date, has_offset, has_time}
use Rattle.timefd_date_moment.specs.Reading.Offsets.{IsOffsetOf}
use Rattle.timefd_date_moment.specs.Reading.Stamped.{IsStamped}
use Rattle.timefd_date_moment.specs.Reading.Stamps.{instant_read}
use Rattle.timefd_date_moment.specs.Reading.Times.{IsTimeByParts}

-- With a timestamp, the date is that of its moment.

abbrev pub IsDateBy : Option UnixTime → Fields → Result Date ValueError → Type 0
IsDateBy None f r = IsDateByParts f r
IsDateBy (Some u) f (Ok d) = (s : Stamped) × IsStamped f u (Ok s) × (d ≡ s.date)
IsDateBy (Some u) f (Err e) = IsStamped f u (Err e)

abbrev pub IsDateOf : Fields → Result Date ValueError → Type 0
IsDateOf f r = IsDateBy (instant_read f) f r

-- and so is the time of day

abbrev pub IsTimeBy : Option UnixTime → Fields → Result Time ValueError → Type 0
IsTimeBy None f r = IsTimeByParts f r
IsTimeBy (Some u) f (Ok t) = (s : Stamped) × IsStamped f u (Ok s) × (t ≡ s.time)
IsTimeBy (Some u) f (Err e) = IsStamped f u (Err e)

abbrev pub IsTimeOf : Fields → Result Time ValueError → Type 0
IsTimeOf f r = IsTimeBy (instant_read f) f r

-- If no part of the value was read, it isn't known; otherwise it is the one that the fields determine.
abbrev pub IsPart : {A : Type 0} → Bool → (Result A ValueError → Type 0)
    → Result (Option A) ValueError → Type 0
IsPart false Is (Ok None) = ⊤
IsPart false Is (Ok (Some a)) = ⊥
IsPart false Is (Err e) = ⊥
IsPart true Is (Ok None) = ⊥
IsPart true Is (Ok (Some a)) = Is (Ok a)
IsPart true Is (Err e) = Is (Err e)

abbrev pub IsDateIn : Fields → Result (Option Date) ValueError → Type 0
IsDateIn f r = IsPart (has_date f) (IsDateByParts f) r

abbrev pub IsTimeIn : Fields → Result (Option Time) ValueError → Type 0
IsTimeIn f r = IsPart (has_time f) (IsTimeByParts f) r

abbrev pub IsOffsetIn : Fields → Result (Option UtcOffset) ValueError → Type 0
IsOffsetIn f r = IsPart (has_offset f) (IsOffsetOf f) r

-- the error of the time, or else that of the offset
abbrev pub IsErrorAfterDate : Fields → ValueError → Type 0
IsErrorAfterDate f e =
    IsTimeIn f (Err e) ⊎ (((time : Option Time) × IsTimeIn f (Ok time)) × IsOffsetIn f (Err e))

-- The moment agrees with all that was read. The error is that of the date, or else that of the time, or
-- else that of the offset.
abbrev pub IsMomentByParts : Fields → Result Moment ValueError → Type 0
IsMomentByParts f (Ok m) =
    IsDateIn f (Ok m.date) × IsTimeIn f (Ok m.time) × IsOffsetIn f (Ok m.offset)
IsMomentByParts f (Err e) =
    IsDateIn f (Err e) ⊎ (((date : Option Date) × IsDateIn f (Ok date)) × IsErrorAfterDate f e)

-- With a timestamp, all three are known.
abbrev pub IsMomentBy : Option UnixTime → Fields → Result Moment ValueError → Type 0
IsMomentBy None f r = IsMomentByParts f r
IsMomentBy (Some u) f (Ok m) = (s : Stamped) × IsStamped f u (Ok s)
    × (m ≡ record { date = Some s.date; time = Some s.time; offset = Some s.offset })
IsMomentBy (Some u) f (Err e) = IsStamped f u (Err e)

abbrev pub IsMomentOf : Fields → Result Moment ValueError → Type 0
IsMomentOf f r = IsMomentBy (instant_read f) f r

-- The instant that fields determine: that of their date, time and offset. The error is that of the date,
-- or else that of the time, or else that of the offset.

abbrev IsInstantErrorAfterDate : Fields → ValueError → Type 0
IsInstantErrorAfterDate f e =
    IsTimeByParts f (Err e) ⊎ (((time : Time) × IsTimeByParts f (Ok time)) × IsOffsetOf f (Err e))

abbrev pub IsInstantByParts : Fields → Result UnixTime ValueError → Type 0
IsInstantByParts f (Ok u) = (d : Date) × (t : Time) × (o : UtcOffset) × IsDateByParts f (Ok d)
    × IsTimeByParts f (Ok t) × IsOffsetOf f (Ok o) × (u ≡ unix_time d t o)
IsInstantByParts f (Err e) = IsDateByParts f (Err e)
    ⊎ (((date : Date) × IsDateByParts f (Ok date)) × IsInstantErrorAfterDate f e)

abbrev pub IsInstantBy : Option UnixTime → Fields → Result UnixTime ValueError → Type 0
IsInstantBy None f r = IsInstantByParts f r
IsInstantBy (Some u) f (Ok v) = (s : Stamped) × IsStamped f u (Ok s)
    × (v ≡ unix_time s.date s.time s.offset)
IsInstantBy (Some u) f (Err e) = IsStamped f u (Err e)

abbrev pub IsInstantOf : Fields → Result UnixTime ValueError → Type 0
IsInstantOf f r = IsInstantBy (instant_read f) f r
