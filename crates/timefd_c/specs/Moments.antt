-- The moment with the numbers that C passes.
use Rattle.std.specs.Prelude.{ℕ, ◌≡◌, ◌+◌, ◌/◌, ◌%◌, ◌==◌, nat_lt, if◌then◌else◌, Bool, IsTrue, IsFalse, Option, Some, None, Result, Ok, Err, ℤ, pos, ◌+ℤ◌, unsigned_abs}
use Rattle.timefd_c.specs.declared.moment.MomentFields.{MomentFields}
use Rattle.timefd_date_moment.specs.Calendar.{counted}
use Rattle.timefd_date_moment.specs.Faults.{date_fault, time_fault}
use Rattle.timefd_date_moment.specs.Signed.{signed}
use Rattle.timefd_date_moment.specs.declared.component_range.ComponentRange.{ComponentRange}
use Rattle.timefd_date_moment.specs.declared.component_range.ComponentRange.TheVariants.{Offset}
use Rattle.timefd_date_moment.specs.declared.date.Date.{Date}
use Rattle.timefd_date_moment.specs.declared.moment.Moment.{Moment}
use Rattle.timefd_date_moment.specs.declared.offset.UtcOffset.{UtcOffset}
use Rattle.timefd_date_moment.specs.declared.time.Time.{Time}

-- What is known: 1 for the date, 2 for the time of day, 4 for the offset.

abbrev pub has_date : MomentFields → Bool
has_date f = f.known % 2 == 1

abbrev pub has_time : MomentFields → Bool
has_time f = f.known / 2 % 2 == 1

abbrev pub has_offset : MomentFields → Bool
has_offset f = f.known / 4 % 2 == 1

-- the number that is out of its range in a part, if the part is known

abbrev pub date_range : MomentFields → Option ComponentRange
date_range f = if has_date f then date_fault f.year f.month f.day else None

abbrev pub time_range : MomentFields → Option ComponentRange
time_range f = if has_time f then time_fault f.hour f.minute f.second f.nanosecond else None

abbrev pub offset_range : MomentFields → Option ComponentRange
offset_range f =
    if has_offset f then (if nat_lt 93599 (unsigned_abs f.offset_seconds) then Some Offset else None)
    else None

-- the first one, or else the other
abbrev pub first_of : Option ComponentRange → Option ComponentRange → Option ComponentRange
first_of (Some e) other = Some e
first_of None other = other

-- the first number that is out of its range, in the order date, time of day, offset
abbrev pub range_fault : MomentFields → Option ComponentRange
range_fault f = first_of (date_range f) (first_of (time_range f) (offset_range f))

-- A part that is known has these numbers.

abbrev pub IsDate : MomentFields → Option Date → Type 0
IsDate f (Some d) = IsTrue (has_date f) × (d.years ≡ counted f.year) × (d.month ≡ f.month)
    × (d.day ≡ f.day)
IsDate f None = IsFalse (has_date f)

abbrev pub IsTime : MomentFields → Option Time → Type 0
IsTime f (Some t) = IsTrue (has_time f) × (t.hour ≡ f.hour) × (t.minute ≡ f.minute)
    × (t.second ≡ f.second) × (t.nanosecond ≡ f.nanosecond)
IsTime f None = IsFalse (has_time f)

abbrev pub IsOffset : MomentFields → Option UtcOffset → Type 0
IsOffset f (Some o) = IsTrue (has_offset f) × (signed o.is_negative o.seconds ≡ f.offset_seconds)
IsOffset f None = IsFalse (has_offset f)

-- The moment has the numbers.
abbrev pub IsMoment : MomentFields → Moment → Type 0
IsMoment f m = IsDate f m.date × IsTime f m.time × IsOffset f m.offset

-- A part of the moment, or the number of that part that is out of its range.
abbrev pub IsPart : {A : Type 0} → Option ComponentRange → (Option A → Type 0)
    → Result (Option A) ComponentRange → Type 0
IsPart fault Is (Ok part) = Is part × (fault ≡ None)
IsPart fault Is (Err e) = fault ≡ Some e

-- The moment with the numbers, or the first number that is out of its range.
abbrev pub IsMomentOf : MomentFields → Result Moment ComponentRange → Type 0
IsMomentOf f (Ok m) = IsMoment f m × (range_fault f ≡ None)
IsMomentOf f (Err e) = range_fault f ≡ Some e

-- The numbers of a moment. The numbers of a part that isn't known are 0.

abbrev pub unknown : MomentFields
unknown = record {
  known = 0;
  year = pos 0;
  nanosecond = 0;
  offset_seconds = pos 0;
  month = 0;
  day = 0;
  hour = 0;
  minute = 0;
  second = 0;
}

abbrev pub date_bit : Option Date → ℕ
date_bit (Some d) = 1
date_bit None = 0

abbrev pub time_bit : Option Time → ℕ
time_bit (Some t) = 2
time_bit None = 0

abbrev pub offset_bit : Option UtcOffset → ℕ
offset_bit (Some o) = 4
offset_bit None = 0

abbrev pub AreOfDate : Option Date → ℤ → ℕ → ℕ → Type 0
AreOfDate (Some d) year month day =
    (year +ℤ pos 1000000 ≡ pos d.years) × (month ≡ d.month) × (day ≡ d.day)
AreOfDate None year month day = (year ≡ pos 0) × (month ≡ 0) × (day ≡ 0)

abbrev pub AreOfTime : Option Time → ℕ → ℕ → ℕ → ℕ → Type 0
AreOfTime (Some t) hour minute second nanosecond =
    (hour ≡ t.hour) × (minute ≡ t.minute) × (second ≡ t.second) × (nanosecond ≡ t.nanosecond)
AreOfTime None hour minute second nanosecond =
    (hour ≡ 0) × (minute ≡ 0) × (second ≡ 0) × (nanosecond ≡ 0)

abbrev pub offset_number : Option UtcOffset → ℤ
offset_number (Some o) = signed o.is_negative o.seconds
offset_number None = pos 0

pub record AreNumbers (m : Moment) (f : MomentFields) : Type 0 where
  pub known : f.known ≡ date_bit m.date + time_bit m.time + offset_bit m.offset
  pub date : AreOfDate m.date f.year f.month f.day
  pub time : AreOfTime m.time f.hour f.minute f.second f.nanosecond
  pub offset : f.offset_seconds ≡ offset_number m.offset
