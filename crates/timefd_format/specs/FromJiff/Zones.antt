-- What a clock in a time zone shows at an instant.
use Rattle.std.specs.Prelude.{◌≡◌, ℤ, ◌+ℤ◌, Option, Some, None, Result, Ok, Err}
use Rattle.jiff_core.specs.declared.civil.datetime.DateTime.{DateTime}
use Rattle.jiff_core.specs.declared.error.Bound.{Bound}
use Rattle.jiff_core.specs.declared.error.Error.{Error}
use Rattle.jiff_core.specs.DateTime.{civil_nanos}
use Rattle.jiff_core.specs.Timestamp.{IsTimestampNanos, nanos_of_seconds}
use Rattle.jiff_tz.specs.declared.timezone.TimeZone.{TimeZone}
use Rattle.jiff_tz.specs.Zone.{offset_at}
use Rattle.timefd_date_moment.specs.declared.moment.Moment.{Moment}
use Rattle.timefd_date_moment.specs.declared.offset.UtcOffset.{UtcOffset}
use Rattle.timefd_date_moment.specs.declared.unix_time.UnixTime.{UnixTime}
use Rattle.timefd_date_moment.specs.Signed.{signed}
use Rattle.timefd_format.specs.FromJiff.Same.{HasDate, HasTime}

-- the nanoseconds since 1970 began in UTC, negative before it
abbrev pub instant : UnixTime → ℤ
instant u = signed u.is_negative u.nanoseconds

-- this many seconds ahead of UTC
abbrev pub IsAhead : ℤ → UtcOffset → Type 0
IsAhead seconds o = signed o.is_negative o.seconds ≡ seconds

abbrev pub HasAhead : ℤ → Option UtcOffset → Type 0
HasAhead seconds (Some o) = IsAhead seconds o
HasAhead seconds None = ⊥

-- `jiff` has no such instant.
abbrev pub IsBeyond : UnixTime → Error → Type 0
IsBeyond u e = (IsTimestampNanos (instant u) → ⊥) × (e ≡ Error.Range Bound.UnixEpochSeconds)

-- The offset is the one that the zone has at the instant: that of the last transition of its table that is
-- not after the instant, or that of its rule from then on.
abbrev pub IsOffsetAt : TimeZone → UnixTime → Result UtcOffset Error → Type 0
IsOffsetAt zone u (Ok o) = IsAhead (offset_at zone (instant u)) o
IsOffsetAt zone u (Err e) = IsBeyond u e

-- The offset is that of the zone at this instant, and the date and the time are the instant's at that offset.
abbrev pub IsOnClock : TimeZone → ℤ → Moment → Type 0
IsOnClock zone n m = (local : DateTime)
    × (civil_nanos local ≡ n +ℤ nanos_of_seconds (offset_at zone n))
    × HasDate local.date m.date × HasTime local.time m.time × HasAhead (offset_at zone n) m.offset

abbrev pub IsShownIn : TimeZone → UnixTime → Result Moment Error → Type 0
IsShownIn zone u (Ok m) = IsOnClock zone (instant u) m
IsShownIn zone u (Err e) = IsBeyond u e
