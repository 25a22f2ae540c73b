-- Time zones in brackets.
use Rattle.std.specs.Prelude.{ℕ, ℤ, ◌≡◌, ◌≢◌, ◌⊎◌, ◌+◌, ◌==◌, Bool, false, length, Option, Some, None, Result, Ok, Err}
use Rattle.std.specs.List.{position_from}
use Rattle.jiff_core.specs.Timestamp.{IsTimestampNanos}
use Rattle.jiff_tz.specs.declared.db.TimeZoneDatabase.{TimeZoneDatabase}
use Rattle.jiff_tz.specs.declared.timezone.TimeZone.{TimeZone}
use Rattle.jiff_tz.specs.Database.{IsZoneNamed, stored}
use Rattle.jiff_tz.specs.Zone.{offset_at}
use Rattle.timefd_lang_component.specs.Tree.{Text}
use Rattle.timefd_format.specs.FromJiff.Zones.{IsAhead, instant}
use Rattle.timefd_date_moment.specs.declared.moment.Moment.{Moment}
use Rattle.timefd_date_moment.specs.declared.offset.UtcOffset.{UtcOffset}
use Rattle.timefd_date_moment.specs.declared.unix_time.UnixTime.{UnixTime}
use Rattle.timefd_date_moment.specs.Signed.{signed}
use Rattle.timefd_format.specs.declared.moment.OffsetConflict.{OffsetConflict}
use Rattle.timefd_format.specs.declared.moment.MomentError.{MomentError}
use Rattle.timefd_format.specs.declared.moment.MomentError.TheVariants as fails
use Rattle.timefd_format.specs.Zones.{instant_of}

abbrev pub is_closing : ℕ → Bool
is_closing byte = byte == 93

abbrev pub closes_at : Option ℕ → ℕ → Bool
closes_at None len = false
closes_at (Some n) len = n + 1 == len

-- the first closing bracket is the last byte
abbrev pub closes_once : Text → Bool
closes_once word = closes_at (position_from is_closing 0 word) (length word)

-- the seconds ahead of UTC
abbrev pub ahead : UtcOffset → ℤ
ahead o = signed o.is_negative o.seconds

abbrev pub IsComparedTo : Option UtcOffset → Moment → UtcOffset → Result Moment MomentError → Type 0
IsComparedTo None m zone r = r ≡ Err fails.NoOffset
IsComparedTo (Some written) m zone (Ok n) = (ahead written ≡ ahead zone) × (n ≡ m)
IsComparedTo (Some written) m zone (Err e) = (ahead written ≢ ahead zone)
    × (e ≡ fails.Conflict (record { written = written; zone = zone }))

-- The moment has this offset; otherwise both offsets are reported.
abbrev pub IsCompared : Moment → UtcOffset → Result Moment MomentError → Type 0
IsCompared m zone r = IsComparedTo m.offset m zone r

-- The moment's offset is the one that the zone has at the instant, if that is an instant of jiff.
abbrev pub HasOffsetOf : TimeZone → UnixTime → Moment → Result Moment MomentError → Type 0
HasOffsetOf zone u m r =
    ((o : UtcOffset) × IsAhead (offset_at zone (instant u)) o × IsCompared m o r)
    ⊎ ((IsTimestampNanos (instant u) → ⊥) × (r ≡ Err fails.Years))

-- There is a zone of this name; or there is none; or memory ran out.
abbrev pub IsOfZoneNamed : TimeZoneDatabase → Text → UnixTime → Moment → Result Moment MomentError → Type 0
IsOfZoneNamed zones name u m r =
    ((zone : TimeZone) × IsZoneNamed zones name zone × HasOffsetOf zone u m r)
    ⊎ ((stored zones name ≡ None) × (r ≡ Err fails.NoZone))
    ⊎ (r ≡ Err fails.Memory)

abbrev pub IsInAgreementAt : Option UnixTime → TimeZoneDatabase → Text → Moment → Result Moment MomentError → Type 0
IsInAgreementAt None zones name m r = r ≡ Err fails.NoOffset
IsInAgreementAt (Some u) zones name m r = IsOfZoneNamed zones name u m r

-- The moment is an instant, and the zone of this name has its offset at that instant.
abbrev pub IsInAgreement : TimeZoneDatabase → Text → Moment → Result Moment MomentError → Type 0
IsInAgreement zones name m r = IsInAgreementAt (instant_of m) zones name m r
