-- The part at fault if no value has what was read.
use Rattle.std.specs.Prelude.{ℕ, ◌≡◌, ◌==◌, ◌||◌, Bool, false, nat_lt, if◌then◌else◌, Option, Some, None, Result, Ok, Err}
use Rattle.timefd_date_moment.specs.declared.fields.fields.Fields.{Fields}
use Rattle.timefd_date_moment.specs.declared.fields.fields.Signed.{Signed}
use Rattle.timefd_date_moment.specs.declared.reading.offsets.Shift.{Shift}
use Rattle.timefd_date_moment.specs.declared.reading.part.DatePart.{DatePart}
use Rattle.timefd_date_moment.specs.declared.reading.part.OffsetPart.{OffsetPart}
use Rattle.timefd_date_moment.specs.declared.reading.part.TimePart.{TimePart}
use Rattle.timefd_date_moment.specs.declared.reading.times.Clock.{Clock}
use Rattle.timefd_date_moment.specs.declared.reading.way.DateWay.{DateWay}
use Rattle.timefd_date_moment.specs.declared.reading.way.DateWay.TheVariants as by

abbrev pub is_beyond : Option Signed → ℕ → Bool
is_beyond None most = false
is_beyond (Some s) most = nat_lt most s.magnitude

abbrev pub is_above : Option ℕ → ℕ → Bool
is_above None most = false
is_above (Some n) most = nat_lt most n

-- Years are those from -999,999 to 999,999. If a part of the year is out of range, it is at fault before
-- the others.

abbrev pub year_fault : Fields → DatePart → DatePart
year_fault f other =
    if is_beyond f.year 999999 then DatePart.Year
    else (if is_beyond f.century 9999 then DatePart.Century
    else (if is_above f.year_last_two 99 then DatePart.YearLastTwo else other))

abbrev pub iso_year_fault : Fields → DatePart → DatePart
iso_year_fault f other =
    if is_beyond f.iso_year 999999 then DatePart.IsoYear
    else (if is_beyond f.iso_century 9999 then DatePart.IsoCentury
    else (if is_above f.iso_year_last_two 99 then DatePart.IsoYearLastTwo else other))

-- months are from 1 to 12, and weekdays from Monday on are from 0 to 6

abbrev pub month_fault : ℕ → DatePart
month_fault m = if (m == 0) || nat_lt 12 m then DatePart.Month else DatePart.Day

abbrev pub weekday_fault : ℕ → DatePart → DatePart
weekday_fault n week = if nat_lt 6 n then DatePart.Weekday else week

-- The part at fault if no date has the fields of a way: the year, the month or the weekday, if it is out
-- of range; otherwise the day, the ordinal or the week, which this year, or this month of the year,
-- doesn't have.
abbrev pub way_fault : Fields → DateWay → DatePart
way_fault f (by.Calendar y m n) = year_fault f (month_fault m)
way_fault f (by.Ordinal y n) = year_fault f DatePart.Ordinal
way_fault f (by.IsoWeek y w n) = iso_year_fault f (weekday_fault n DatePart.IsoWeek)
way_fault f (by.SundayWeek y w n) = year_fault f (weekday_fault n DatePart.SundayWeek)
way_fault f (by.MondayWeek y w n) = year_fault f (weekday_fault n DatePart.MondayWeek)

abbrev pub date_fault : Fields → Result DateWay DatePart → Option DatePart
date_fault f (Ok w) = Some (way_fault f w)
date_fault f (Err p) = None

-- the first of the numbers that no time of day has
abbrev pub clock_fault : Clock → Option TimePart
clock_fault c =
    if nat_lt 23 c.hour then Some TimePart.Hour
    else (if nat_lt 59 c.minute then Some TimePart.Minute
    else (if nat_lt 59 c.second then Some TimePart.Second
    else (if nat_lt 999999999 c.nanosecond then Some TimePart.Subsecond else None)))

abbrev pub time_fault : Result Clock TimePart → Option TimePart
time_fault (Ok c) = clock_fault c
time_fault (Err p) = None

-- the first of the numbers that no offset has
abbrev pub shift_fault : Shift → Option OffsetPart
shift_fault s =
    if nat_lt 25 s.hour then Some OffsetPart.Hour
    else (if nat_lt 59 s.minute then Some OffsetPart.Minute
    else (if nat_lt 59 s.second then Some OffsetPart.Second else None))

abbrev pub offset_fault : Result Shift OffsetPart → Option OffsetPart
offset_fault (Ok s) = shift_fault s
offset_fault (Err p) = None

-- the error of a result
abbrev pub fault_of : {A P : Type 0} → Result A P → Option P
fault_of (Ok a) = None
fault_of (Err p) = Some p

-- The part that a contradiction names. If a value has the fields that determine it, this is the first part
-- in which it differs from what was read. If no value has them, this is the part at fault.
abbrev pub IsNamed : {A P : Type 0} → (A → Type 0) → (A → Option P) → Option P → P → Type 0
IsNamed {A = A} Has otherwise fault p =
    ((a : A) → Has a → otherwise a ≡ Some p) × (((a : A) → Has a → ⊥) → fault ≡ Some p)
