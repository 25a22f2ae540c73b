-- What a clock shows at an instant.
use Rattle.std.specs.Prelude.{ℕ, ◌≡◌, ◌+◌, ◌-◌, ◌*◌, if◌then◌else◌, Option, Some, None, IsTrue}
use Rattle.timefd_date_moment.specs.declared.date.Date.{Date}
use Rattle.timefd_date_moment.specs.declared.time.Time.{Time}
use Rattle.timefd_date_moment.specs.declared.offset.UtcOffset.{UtcOffset}
use Rattle.timefd_date_moment.specs.declared.unix_time.UnixTime.{UnixTime}
use Rattle.timefd_date_moment.specs.Instants.{count, is_within}
use Rattle.timefd_date_moment.specs.Moments.{utc_nanoseconds}

-- the nanoseconds that a clock counts, from those in UTC
abbrev pub on_clock : UtcOffset → ℕ → ℕ
on_clock o n =
    if o.is_negative then n - o.seconds * 1000000000 else n + o.seconds * 1000000000

-- The clock at the offset shows this date and time at the instant, and the instant's year in UTC is
-- within range.
abbrev pub Shows : UnixTime → UtcOffset → Date → Time → Type 0
Shows u o d t = (utc_nanoseconds d t o ≡ count u) × IsTrue (is_within u)

abbrev pub IsShownAt : UnixTime → UtcOffset → Option (Date × Time) → Type 0
IsShownAt u o (Some r) = Shows u o r.0 r.1
IsShownAt u o None = (d : Date) (t : Time) → Shows u o d t → ⊥

abbrev pub both_known : Option Date → Option Time → Option (Date × Time)
both_known None t = None
both_known (Some d) None = None
both_known (Some d) (Some t) = Some (d, t)
