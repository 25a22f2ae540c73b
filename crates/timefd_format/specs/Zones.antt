-- Moments as the clock of a time zone shows them.
use Rattle.std.specs.Prelude.{◌≡◌, Option, Some, None, Result, Ok, Err}
use Rattle.jiff_core.specs.Timestamp.{IsTimestampNanos}
use Rattle.jiff_tz.specs.declared.timezone.TimeZone.{TimeZone}
use Rattle.timefd_format.specs.FromJiff.Zones.{IsOnClock, instant}
use Rattle.timefd_date_moment.specs.declared.date.Date.{Date}
use Rattle.timefd_date_moment.specs.declared.time.Time.{Time}
use Rattle.timefd_date_moment.specs.declared.offset.UtcOffset.{UtcOffset}
use Rattle.timefd_date_moment.specs.declared.moment.Moment.{Moment}
use Rattle.timefd_date_moment.specs.declared.unix_time.UnixTime.{UnixTime}
use Rattle.timefd_date_moment.specs.Moments.{unix_time}
use Rattle.timefd_format.specs.declared.moment.MomentError.{MomentError}
use Rattle.timefd_format.specs.declared.moment.MomentError.TheVariants as fails

abbrev pub instant_by : Option Date → Option Time → Option UtcOffset → Option UnixTime
instant_by (Some d) (Some t) (Some o) = Some (unix_time d t o)
instant_by (Some d) (Some t) None = None
instant_by (Some d) None o = None
instant_by None t o = None

-- the instant of a moment whose date, time and offset are known
abbrev pub instant_of : Moment → Option UnixTime
instant_of m = instant_by m.date m.time m.offset

abbrev pub IsShownAt : TimeZone → Option UnixTime → Result Moment MomentError → Type 0
IsShownAt zone None r = r ≡ Err fails.NoInstant
IsShownAt zone (Some u) (Ok m) = IsOnClock zone (instant u) m
IsShownAt zone (Some u) (Err e) = (e ≡ fails.Years) × (IsTimestampNanos (instant u) → ⊥)

-- What a clock in the zone shows at the instant of the moment. It fails if the moment isn't an instant, or is
-- outside of jiff's years.
abbrev pub IsInZone : TimeZone → Moment → Result Moment MomentError → Type 0
IsInZone zone m r = IsShownAt zone (instant_of m) r

-- Without a zone a moment stays as it is.
abbrev pub IsShownBy : Option TimeZone → Result Moment MomentError → Result Moment MomentError → Type 0
IsShownBy None found r = r ≡ found
IsShownBy (Some zone) (Ok m) r = IsInZone zone m r
IsShownBy (Some zone) (Err e) r = r ≡ Err e
