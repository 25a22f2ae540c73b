-- Values of `jiff` and of `timefd_date_moment` that are equal, field by field.
use Rattle.std.specs.Prelude.{◌≡◌, Option, Some, None}
use Rattle.jiff_core.specs.declared.civil.date.Date.{Date as JiffDate}
use Rattle.jiff_core.specs.declared.civil.time.Time.{Time as JiffTime}
use Rattle.jiff_core.specs.declared.offset.Offset.{Offset}
use Rattle.jiff_core.specs.declared.timestamp.Timestamp.{Timestamp}
use Rattle.timefd_date_moment.specs.declared.date.Date.{Date}
use Rattle.timefd_date_moment.specs.declared.time.Time.{Time}
use Rattle.timefd_date_moment.specs.declared.offset.UtcOffset.{UtcOffset}
use Rattle.timefd_date_moment.specs.declared.unix_time.UnixTime.{UnixTime}
use Rattle.timefd_date_moment.specs.Calendar.{counted}
use Rattle.timefd_date_moment.specs.Signed.{signed}

abbrev pub IsSameDate : JiffDate → Date → Type 0
IsSameDate j d = (d.years ≡ counted j.year) × (d.month ≡ j.month) × (d.day ≡ j.day)

abbrev pub IsSameTime : JiffTime → Time → Type 0
IsSameTime j t =
    (t.hour ≡ j.hour) × (t.minute ≡ j.minute) × (t.second ≡ j.second)
    × (t.nanosecond ≡ j.subsec_nanosecond)

abbrev pub IsSameOffset : Offset → UtcOffset → Type 0
IsSameOffset j o = signed o.is_negative o.seconds ≡ j.seconds

abbrev pub IsSameInstant : Timestamp → UnixTime → Type 0
IsSameInstant j u = signed u.is_negative u.nanoseconds ≡ j.nanosecond

-- the moment has this part, and it is equal

abbrev pub HasDate : JiffDate → Option Date → Type 0
HasDate j (Some d) = IsSameDate j d
HasDate j None = ⊥

abbrev pub HasTime : JiffTime → Option Time → Type 0
HasTime j (Some t) = IsSameTime j t
HasTime j None = ⊥

abbrev pub HasOffset : Offset → Option UtcOffset → Type 0
HasOffset j (Some o) = IsSameOffset j o
HasOffset j None = ⊥
