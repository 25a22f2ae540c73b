-- Instants, and the moment in UTC at one.
use Rattle.std.specs.Prelude.{ℕ, ◌≡◌, ◌+◌, ◌-◌, ◌*◌, Bool, nat_le, nat_lt, if◌then◌else◌, Option, Some}
use Rattle.timefd_date_moment.specs.declared.date.Date.{Date}
use Rattle.timefd_date_moment.specs.declared.time.Time.{Time}
use Rattle.timefd_date_moment.specs.declared.offset.UtcOffset.{UtcOffset}
use Rattle.timefd_date_moment.specs.declared.moment.Moment.{Moment}
use Rattle.timefd_date_moment.specs.declared.unix_time.UnixTime.{UnixTime}
use Rattle.timefd_date_moment.specs.Moments.{unix_start, utc_nanoseconds}

-- whether the year in UTC is from -999,999 to 999,999
abbrev pub is_within : UnixTime → Bool
is_within u =
    if u.is_negative then nat_le u.nanoseconds (31619087596800 * 1000000000)
    else nat_lt u.nanoseconds (31494784780800 * 1000000000)

-- the nanoseconds of an instant, in the same count as those of dates and times
abbrev pub count : UnixTime → ℕ
count u =
    if u.is_negative then unix_start * 1000000000 - u.nanoseconds
    else unix_start * 1000000000 + u.nanoseconds

abbrev pub all_at : Option Date → Option Time → Option UtcOffset → UnixTime → Type 0
all_at (Some d) (Some t) (Some o) u = (utc_nanoseconds d t o ≡ count u) × (o.seconds ≡ 0)
all_at _ _ _ u = ⊥

-- the date and time are those of the instant, in UTC
abbrev pub IsAt : Moment → UnixTime → Type 0
IsAt m u = all_at m.date m.time m.offset u
