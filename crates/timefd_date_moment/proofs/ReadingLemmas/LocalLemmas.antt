-- What a clock shows at an instant.
use Rattle.std.proofs.Common.{ℕ, ◌≡◌, ◌∙◌, ◌+◌, ◌-◌, ◌*◌, ◌≤◌, ◌<◌, Bool, true, false, nat_le, nat_lt, Option, Some, None, if◌then◌else◌, refl, arith}
use Rattle.std.proofs.lemmas.Bool.{le-leb, leb-true, lt-ltb}
use Rattle.timefd_date_moment.specs.declared.date.Date.{Date}
use Rattle.timefd_date_moment.specs.declared.time.Time.{Time}
use Rattle.timefd_date_moment.specs.declared.offset.UtcOffset.{UtcOffset}
use Rattle.timefd_date_moment.specs.declared.unix_time.UnixTime.{UnixTime}
use Rattle.timefd_date_moment.specs.Instants.{all_at, count, is_within}
use Rattle.timefd_date_moment.specs.Moments.{day_second, local_seconds}
use Rattle.timefd_date_moment.specs.Reading.Locals.{IsShownAt, both_known, on_clock}
use Rattle.timefd_date_moment.proofs.ReadingLemmas.DayLemmas.{within}
use Rattle.timefd_date_moment.proofs.ReadingLemmas.ShownLemmas.{clash}

-- 1970 and the ends of the years, in nanoseconds
low : (b : Bool) (n : ℕ)
    → (if b then nat_le n (31619087596800 * 1000000000) else nat_lt n (31494784780800 * 1000000000)) ≡ true
    → 31722400 * 1000000000 ≤ (if b then (365962028 * 86400 + 100000) * 1000000000 - n
    else (365962028 * 86400 + 100000) * 1000000000 + n)
low true n e = omega (arith, leb-true _ _ e)
low false n e = omega arith

inside : (b : Bool) (n c : ℕ) → (if b then (365962028 * 86400 + 100000) * 1000000000 - n
    else (365962028 * 86400 + 100000) * 1000000000 + n) ≡ c
    → 31722400 * 1000000000 ≤ c → c < 63113904100000 * 1000000000
    → (if b then nat_le n (31619087596800 * 1000000000) else nat_lt n (31494784780800 * 1000000000)) ≡ true
inside true n c e h k = le-leb _ _ (omega (arith, e, h))
inside false n c e h k = lt-ltb _ _ (omega (arith, e, k))

-- the clock is this far from UTC
ahead : (a b : Bool) (l n z s c : ℕ)
    → (if a then l + z else l - z) * 1000000000 + n
    ≡ (if b then c - s * 1000000000 else c + s * 1000000000)
    → z ≡ 0 → s ≤ 93599 → 100000 ≤ l → 31722400 * 1000000000 ≤ c
    → (if b then l + s else l - s) * 1000000000 + n ≡ c
ahead true true l n z s c e none few far since = omega (arith, e, none, few, far, since)
ahead true false l n z s c e none few far since = omega (arith, e, none, few, far, since)
ahead false true l n z s c e none few far since = omega (arith, e, none, few, far, since)
ahead false false l n z s c e none few far since = omega (arith, e, none, few, far, since)

back : (b : Bool) (l n s c v : ℕ) → (if b then l + s else l - s) * 1000000000 + n ≡ c
    → v ≡ (if b then c - s * 1000000000 else c + s * 1000000000) → s ≤ 93599 → 100000 ≤ l
    → v ≡ l * 1000000000 + n
back true l n s c v e k few far = omega (arith, e, k, few, far)
back false l n s c v e k few far = omega (arith, e, k, few, far)

some_seconds : (d : Date) (t : Time) → 100000 ≤ local_seconds d t
some_seconds d t = omega arith

pub shown : (u v : UnixTime) (o : UtcOffset) (date : Option Date) (time : Option Time) (utc : Option UtcOffset)
    → count v ≡ on_clock o (count u) → is_within u ≡ true → all_at date time utc v
    → IsShownAt u o (both_known date time)
shown u v o None time utc e is h = absurd h
shown u v o (Some d) None utc e is h = absurd h
shown u v o (Some d) (Some t) None e is h = absurd h
shown u v o (Some d) (Some t) (Some z) e is h = (
  ahead z.is_negative o.is_negative (local_seconds d t) t.nanosecond z.seconds o.seconds (count u)
      (h.0 ∙ e) h.1 o.within (some_seconds d t) (low u.is_negative u.nanoseconds is),
  is,
)

bounds : (d : Date) (t : Time) (c : ℕ) → c ≡ local_seconds d t * 1000000000 + t.nanosecond
    → (31722400 * 1000000000 ≤ c) × (c < 63113904100000 * 1000000000)
bounds d t c e =
    let day = within d in
    let second : day_second t ≤ 86399 = omega (arith, t.hours, t.minutes, t.seconds) in (
      omega (arith, e, day.0),
      omega (arith, e, day.1, second, t.nanoseconds),
    )

pub unshown : (u v : UnixTime) (o : UtcOffset) → count v ≡ on_clock o (count u) → is_within v ≡ false
    → IsShownAt u o None
unshown u v o e out = λ d t h.
    let at : count v ≡ local_seconds d t * 1000000000 + t.nanosecond =
    back o.is_negative (local_seconds d t) t.nanosecond o.seconds (count u) (count v) h.0 e o.within
    (some_seconds d t) in
    let bound = bounds d t (count v) at in
    clash (is_within v) out
    (inside v.is_negative v.nanoseconds (count v) refl bound.0 bound.1)

pub outside : (u : UnixTime) (o : UtcOffset) → is_within u ≡ false → IsShownAt u o None
outside u o out = λ d t h. clash (is_within u) out h.1
