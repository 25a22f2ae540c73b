-- The instant that the timestamps of a text determine.
use Rattle.std.specs.Prelude.{ℕ, ◌+◌, ◌-◌, ◌*◌, ◌/◌, ◌%◌, min, Bool, false, nat_lt, if◌then◌else◌, Option, Some, None}
use Rattle.timefd_date_moment.specs.declared.fields.fields.Fields.{Fields}
use Rattle.timefd_date_moment.specs.declared.fields.fields.Fraction.{Fraction}
use Rattle.timefd_date_moment.specs.declared.fields.fields.Signed.{Signed}
use Rattle.timefd_date_moment.specs.declared.unix_time.UnixTime.{UnixTime}
use Rattle.timefd_date_moment.specs.declared.reading.part.InstantPart.{InstantPart}
use Rattle.timefd_date_moment.specs.Reading.Times.{nanosecond_read}

-- the distance from 1970, capped where it is too far for any moment
abbrev pub stamp_magnitude : Signed → ℕ
stamp_magnitude s = min s.magnitude 100000000000000000000000

-- the nanoseconds of the fraction that was read, or 0
abbrev pub fraction_read : Option Fraction → ℕ
fraction_read fraction = min (nanosecond_read fraction) 1000000000

-- a fraction with more digits than these was read
abbrev pub is_finer : Option Fraction → ℕ → Bool
is_finer None digits = false
is_finer (Some f) digits = nat_lt digits f.digits

-- Seconds are rounded down. So the fraction counts forward from them, before 1970 too.
abbrev pub after_second : Bool → ℕ → ℕ → ℕ
after_second is_negative seconds fraction =
    if is_negative then seconds * 1000000000 - fraction else seconds * 1000000000 + fraction

-- Units smaller than a second are rounded towards 1970. A finer fraction replaces all that is smaller
-- than a second.
abbrev pub within_second : Bool → ℕ → ℕ → ℕ
within_second is_negative whole fraction =
    if is_negative then whole / 1000000000 * 1000000000 + (1000000000 - fraction) % 1000000000
    else whole / 1000000000 * 1000000000 + fraction

abbrev pub in_second : Bool → Bool → ℕ → ℕ → ℕ
in_second is_finer is_negative whole fraction =
    if is_finer then within_second is_negative whole fraction else whole

abbrev pub by_second : Option Fraction → Signed → UnixTime
by_second fraction s = record {
  is_negative = s.is_negative;
  nanoseconds = after_second s.is_negative (stamp_magnitude s) (fraction_read fraction);
}

abbrev pub by_nanosecond : Signed → UnixTime
by_nanosecond s = record { is_negative = s.is_negative; nanoseconds = stamp_magnitude s }

-- the instant of a timestamp in a unit that is this many digits of a second
abbrev pub by_unit : Option Fraction → ℕ → ℕ → Signed → UnixTime
by_unit fraction digits unit s = record {
  is_negative = s.is_negative;
  nanoseconds =
      in_second (is_finer fraction digits) s.is_negative (stamp_magnitude s * unit) (fraction_read fraction);
}

-- The finest timestamp counts. Digits of the second that it lacks are taken from the fraction that was
-- read, and are 0 without one.
abbrev pub instant_by : Option Fraction → Option Signed → Option Signed → Option Signed → Option Signed
    → Option UnixTime
instant_by fraction (Some n) us ms s = Some (by_nanosecond n)
instant_by fraction None (Some n) ms s = Some (by_unit fraction 6 1000 n)
instant_by fraction None None (Some n) s = Some (by_unit fraction 3 1000000 n)
instant_by fraction None None None (Some n) = Some (by_second fraction n)
instant_by fraction None None None None = None

-- the instant of the timestamps that were read
abbrev pub instant_read : Fields → Option UnixTime
instant_read f = instant_by f.subsecond f.unix_nanosecond f.unix_microsecond f.unix_millisecond f.unix_second

-- the finest timestamp that was read
abbrev pub finest_of : Option Signed → Option Signed → Option Signed → InstantPart
finest_of (Some n) us ms = InstantPart.Nanosecond
finest_of None (Some n) ms = InstantPart.Microsecond
finest_of None None (Some n) = InstantPart.Millisecond
finest_of None None None = InstantPart.Second

abbrev pub finest : Fields → InstantPart
finest f = finest_of f.unix_nanosecond f.unix_microsecond f.unix_millisecond
