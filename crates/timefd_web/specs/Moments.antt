-- The moment with the numbers that the page passes.
use Rattle.std.specs.Prelude.{◌≡◌, nat_lt, if◌then◌else◌, Option, Some, None, Result, Ok, Err, unsigned_abs}
use Rattle.timefd_date_moment.specs.Calendar.{counted}
use Rattle.timefd_date_moment.specs.Faults.{date_fault, time_fault}
use Rattle.timefd_date_moment.specs.Signed.{signed}
use Rattle.timefd_date_moment.specs.declared.component_range.ComponentRange.{ComponentRange}
use Rattle.timefd_date_moment.specs.declared.component_range.ComponentRange.TheVariants.{Offset}
use Rattle.timefd_date_moment.specs.declared.date.Date.{Date}
use Rattle.timefd_date_moment.specs.declared.moment.Moment.{Moment}
use Rattle.timefd_date_moment.specs.declared.offset.UtcOffset.{UtcOffset}
use Rattle.timefd_date_moment.specs.declared.time.Time.{Time}
use Rattle.timefd_web.specs.declared.fields.MomentParts.{MomentParts}

-- the number that is out of its range in each part

abbrev pub date_range : MomentParts → Option ComponentRange
date_range f = date_fault f.year f.month f.day

abbrev pub time_range : MomentParts → Option ComponentRange
time_range f = time_fault f.hour f.minute f.second f.nanosecond

-- An offset is less than 26 hours.
abbrev pub offset_range : MomentParts → Option ComponentRange
offset_range f = if nat_lt 93599 (unsigned_abs f.offset_seconds) then Some Offset else None

-- the first one, or else the other
abbrev pub first_of : Option ComponentRange → Option ComponentRange → Option ComponentRange
first_of (Some e) other = Some e
first_of None other = other

-- the first number that is out of its range, in the order date, time of day, offset
abbrev pub range_fault : MomentParts → Option ComponentRange
range_fault f = first_of (date_range f) (first_of (time_range f) (offset_range f))

-- Each part is known and has these numbers.

abbrev pub IsDate : MomentParts → Option Date → Type 0
IsDate f (Some d) = (d.years ≡ counted f.year) × (d.month ≡ f.month) × (d.day ≡ f.day)
IsDate f None = ⊥

abbrev pub IsTime : MomentParts → Option Time → Type 0
IsTime f (Some t) = (t.hour ≡ f.hour) × (t.minute ≡ f.minute) × (t.second ≡ f.second)
    × (t.nanosecond ≡ f.nanosecond)
IsTime f None = ⊥

abbrev pub IsOffset : MomentParts → Option UtcOffset → Type 0
IsOffset f (Some o) = signed o.is_negative o.seconds ≡ f.offset_seconds
IsOffset f None = ⊥

abbrev pub IsMoment : MomentParts → Moment → Type 0
IsMoment f m = IsDate f m.date × IsTime f m.time × IsOffset f m.offset

-- The moment with the numbers, or the first number that is out of its range.
abbrev pub IsMomentOf : MomentParts → Result Moment ComponentRange → Type 0
IsMomentOf f (Ok m) = IsMoment f m × (range_fault f ≡ None)
IsMomentOf f (Err e) = range_fault f ≡ Some e
