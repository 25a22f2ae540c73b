-- The moment of a timestamp, compared with all else that was read.
use Rattle.std.proofs.Common.{ℕ, ◌≡◌, ◌∙◌, ◌+◌, ◌-◌, ◌*◌, ◌≤◌, Bool, true, false, nat_le, nat_lt, Option, Some, None, Result, Ok, Err, if◌then◌else◌, sym, ap, subst, arith}
use Rattle.timefd_date_moment.specs.declared.fields.fields.Fields.{Fields}
use Rattle.timefd_date_moment.specs.declared.date.Date.{Date}
use Rattle.timefd_date_moment.specs.declared.time.Time.{Time}
use Rattle.timefd_date_moment.specs.declared.offset.UtcOffset.{UtcOffset}
use Rattle.timefd_date_moment.specs.declared.unix_time.UnixTime.{UnixTime}
use Rattle.timefd_date_moment.specs.Moments.{day_number, day_second, hour_of_twelve, local_seconds, unix_start, utc_nanoseconds}
use Rattle.timefd_date_moment.proofs.LawLemmas as law
use Rattle.timefd_date_moment.specs.declared.reading.error.ValueError.TheVariants as error
use Rattle.timefd_date_moment.specs.declared.reading.offsets.Shift.{Shift}
use Rattle.timefd_date_moment.specs.declared.reading.part.DatePart.{DatePart}
use Rattle.timefd_date_moment.specs.declared.reading.part.TimePart.{TimePart}
use Rattle.timefd_date_moment.specs.declared.reading.part.OffsetPart.{OffsetPart}
use Rattle.timefd_date_moment.specs.declared.reading.part.InstantPart.{InstantPart}
use Rattle.timefd_date_moment.specs.declared.reading.part.Part.{Part}
use Rattle.timefd_date_moment.specs.declared.reading.part.Part.TheVariants as part
use Rattle.timefd_date_moment.specs.Reading.Dates as of_date
use Rattle.timefd_date_moment.specs.Reading.Faults.{shift_fault}
use Rattle.timefd_date_moment.specs.Reading.Locals.{IsShownAt, Shows}
use Rattle.timefd_date_moment.specs.Reading.Offsets as of_offset
use Rattle.timefd_date_moment.specs.Reading.Offsets.{HasShift, Selects, ShiftHas}
use Rattle.timefd_date_moment.specs.Reading.Shown.{first_false, is_count, is_flag}
use Rattle.timefd_date_moment.specs.Reading.Stamped.{IsAt, IsStamped, MomentAgrees, has_digits, moment_has, moment_parts, part_or_stamp, stamp_fault, stamp_has, time_shows, zone_read}
use Rattle.timefd_date_moment.specs.Reading.Stamps.{finest}
use Rattle.timefd_date_moment.specs.Reading.Times as of_time
use Rattle.timefd_date_moment.specs.Reading.Ways.{IsDetermined}
use Rattle.timefd_date_moment.proofs.ReadingLemmas.OffsetLemmas as offset
use Rattle.timefd_date_moment.proofs.ReadingLemmas.ShownLemmas as date
use Rattle.timefd_date_moment.proofs.ReadingLemmas.ShownLemmas.{true_at}

determined : (f : Fields) (s : Shift) → zone_read f ≡ Ok s → IsDetermined (zone_read f)
determined f s e = subst (λ (r : Result Shift OffsetPart). IsDetermined r) (sym e) tt

-- Only one date and time are shown at an instant.

same_local : (a b : Bool) (l m n k s r : ℕ) → (if a then l + s else l - s) * 1000000000 + n
    ≡ (if b then m + r else m - r) * 1000000000 + k
    → a ≡ b → s ≡ r → s ≤ 93599 → 100000 ≤ l → 100000 ≤ m → n ≤ 999999999 → k ≤ 999999999
    → (l ≡ m) × (n ≡ k)
same_local true true l m n k s r e is same few x y p q =
    (omega (arith, e, same, few, x, y, p, q), omega (arith, e, same, few, x, y, p, q))
same_local true false l m n k s r e is same few x y p q = absurd cc
same_local false true l m n k s r e is same few x y p q = absurd cc
same_local false false l m n k s r e is same few x y p q =
    (omega (arith, e, same, few, x, y, p, q), omega (arith, e, same, few, x, y, p, q))

same_day : (a b s r : ℕ) → a * 86400 + s + 100000 ≡ b * 86400 + r + 100000 → s ≤ 86399 → r ≤ 86399
    → (a ≡ b) × (s ≡ r)
same_day a b s r e x y = (omega (arith, e, x, y), omega (arith, e, x, y))

same_clock : (h m s x y z : ℕ) → h * 3600 + m * 60 + s ≡ x * 3600 + y * 60 + z → m ≤ 59 → s ≤ 59
    → y ≤ 59 → z ≤ 59 → (h ≡ x) × (m ≡ y) × (s ≡ z)
same_clock h m s x y z e a b c d =
    (omega (arith, e, a, b, c, d), omega (arith, e, a, b, c, d), omega (arith, e, a, b, c, d))

second_within : (t : Time) → day_second t ≤ 86399
second_within t = omega (arith, t.hours, t.minutes, t.seconds)

some_seconds : (d : Date) (t : Time) → 100000 ≤ local_seconds d t
some_seconds d t = omega arith

pub one_local : (d e : Date) (t v : Time) (o q : UtcOffset) → of_offset.IsSame o q
    → utc_nanoseconds d t o ≡ utc_nanoseconds e v q → of_date.IsSame d e × of_time.IsSame t v
one_local d e t v o q same h =
    let at = same_local o.is_negative q.is_negative (local_seconds d t) (local_seconds e v) t.nanosecond
    v.nanosecond o.seconds q.seconds h same.1 same.0 o.within (some_seconds d t) (some_seconds e v)
    t.nanoseconds v.nanoseconds in
    let day = same_day (day_number d) (day_number e) (day_second t) (day_second v) at.0 (second_within t)
    (second_within v) in
    let clock = same_clock t.hour t.minute t.second v.hour v.minute v.second day.1 t.minutes t.seconds
    v.minutes v.seconds in
    (law.one_date d e day.0, (clock.0, clock.1, clock.2, at.1))

-- Equal times show the same.

same_time : (f : Fields) (p : TimePart) (t u : Time) → of_time.IsSame t u
    → time_shows f t p ≡ time_shows f u p
same_time f TimePart.Hour t u s = ap (λ (n : ℕ). is_count f.hour n) s.0
same_time f TimePart.Hour12 t u s = ap (λ (n : ℕ). is_count f.hour_12 (hour_of_twelve n)) s.0
same_time f TimePart.Period t u s = ap (λ (n : ℕ). is_flag f.is_afternoon (nat_le 12 n)) s.0
same_time f TimePart.Minute t u s = ap (λ (n : ℕ). is_count f.minute n) s.1
same_time f TimePart.Second t u s = ap (λ (n : ℕ). is_count f.second n) s.2
same_time f TimePart.Subsecond t u s = ap (λ (n : ℕ). has_digits f.subsecond n) s.3

-- the instant with this count of nanoseconds
abbrev pub unix_at : ℕ → UnixTime
unix_at n =
    if nat_lt n (unix_start * 1000000000) then (record {
      is_negative = true;
      nanoseconds = unix_start * 1000000000 - n;
    }) else (record {
      is_negative = false;
      nanoseconds = n - unix_start * 1000000000;
    })

pub same_parts : (f : Fields) (p : Part) (d e : Date) (t v : Time) (o q : UtcOffset) → of_date.IsSame d e
    → of_time.IsSame t v → of_offset.IsSame o q → utc_nanoseconds d t o ≡ utc_nanoseconds e v q
    → moment_has f d t o p ≡ moment_has f e v q p
same_parts f (part.Date p) d e t v o q x y z h = date.same_parts f p d e x
same_parts f (part.Time p) d e t v o q x y z h = same_time f p t v y
same_parts f (part.Offset p) d e t v o q x y z h = offset.same_parts f p o q z
same_parts f (part.Instant p) d e t v o q x y z h = ap (λ (n : ℕ). stamp_has f (unix_at n) p) h

pub agrees : (f : Fields) (d : Date) (t : Time) (o : UtcOffset)
    → first_false (moment_has f d t o) moment_parts ≡ None → MomentAgrees f d t o
agrees f d t o e (part.Date DatePart.Day) = true_at (moment_has f d t o) moment_parts 0 e
agrees f d t o e (part.Date DatePart.Month) = true_at (moment_has f d t o) moment_parts 1 e
agrees f d t o e (part.Date DatePart.Ordinal) = true_at (moment_has f d t o) moment_parts 2 e
agrees f d t o e (part.Date DatePart.Weekday) = true_at (moment_has f d t o) moment_parts 3 e
agrees f d t o e (part.Date DatePart.IsoWeek) = true_at (moment_has f d t o) moment_parts 4 e
agrees f d t o e (part.Date DatePart.SundayWeek) = true_at (moment_has f d t o) moment_parts 5 e
agrees f d t o e (part.Date DatePart.MondayWeek) = true_at (moment_has f d t o) moment_parts 6 e
agrees f d t o e (part.Date DatePart.YearLastTwo) = true_at (moment_has f d t o) moment_parts 7 e
agrees f d t o e (part.Date DatePart.Century) = true_at (moment_has f d t o) moment_parts 8 e
agrees f d t o e (part.Date DatePart.Year) = true_at (moment_has f d t o) moment_parts 9 e
agrees f d t o e (part.Date DatePart.IsoYearLastTwo) = true_at (moment_has f d t o) moment_parts 10 e
agrees f d t o e (part.Date DatePart.IsoCentury) = true_at (moment_has f d t o) moment_parts 11 e
agrees f d t o e (part.Date DatePart.IsoYear) = true_at (moment_has f d t o) moment_parts 12 e
agrees f d t o e (part.Time TimePart.Hour) = true_at (moment_has f d t o) moment_parts 13 e
agrees f d t o e (part.Time TimePart.Hour12) = true_at (moment_has f d t o) moment_parts 14 e
agrees f d t o e (part.Time TimePart.Period) = true_at (moment_has f d t o) moment_parts 15 e
agrees f d t o e (part.Time TimePart.Minute) = true_at (moment_has f d t o) moment_parts 16 e
agrees f d t o e (part.Time TimePart.Second) = true_at (moment_has f d t o) moment_parts 17 e
agrees f d t o e (part.Time TimePart.Subsecond) = true_at (moment_has f d t o) moment_parts 18 e
agrees f d t o e (part.Offset OffsetPart.Hour) = true_at (moment_has f d t o) moment_parts 19 e
agrees f d t o e (part.Offset OffsetPart.Minute) = true_at (moment_has f d t o) moment_parts 20 e
agrees f d t o e (part.Offset OffsetPart.Second) = true_at (moment_has f d t o) moment_parts 21 e
agrees f d t o e (part.Instant InstantPart.Second) = true_at (moment_has f d t o) moment_parts 22 e
agrees f d t o e (part.Instant InstantPart.Millisecond) = true_at (moment_has f d t o) moment_parts 23 e
agrees f d t o e (part.Instant InstantPart.Microsecond) = true_at (moment_has f d t o) moment_parts 24 e
agrees f d t o e (part.Instant InstantPart.Nanosecond) = true_at (moment_has f d t o) moment_parts 25 e

zone_has : (f : Fields) (s : Shift) (o : UtcOffset) → zone_read f ≡ Ok s → HasShift (zone_read f) o
    → ShiftHas s o
zone_has f s o e h = subst (λ (r : Result Shift OffsetPart). HasShift r o) e h

pub agreed : (f : Fields) (u : UnixTime) (s : Shift) (d : Date) (t : Time) (o : UtcOffset)
    (p : Option Part) → zone_read f ≡ Ok s → ShiftHas s o → Shows u o d t
    → p ≡ first_false (moment_has f d t o) moment_parts → p ≡ None
    → MomentAgrees f d t o × IsAt f u d t o
agreed f u s d t o p e has shows is none = (
  agrees f d t o (sym is ∙ none),
  (shows, subst (λ (r : Result Shift OffsetPart). HasShift r o) (sym e) has),
)

-- What the clock shows is the same moment, and so the first part that differs is the same.
first_of_same : (f : Fields) (d e : Date) (t v : Time) (o q : UtcOffset) → of_date.IsSame d e
    → of_time.IsSame t v → of_offset.IsSame o q → utc_nanoseconds d t o ≡ utc_nanoseconds e v q
    → first_false (moment_has f d t o) moment_parts ≡ first_false (moment_has f e v q) moment_parts
first_of_same f d e t v o q x y z h =
    λ i. first_false (λ p. same_parts f p d e t v o q x y z h i) moment_parts

pub contradicted : (f : Fields) (u : UnixTime) (s : Shift) (d : Date) (t : Time) (o : UtcOffset)
    (first : Option Part) (p : Part) → zone_read f ≡ Ok s → ShiftHas s o → Selects (ShiftHas s) (Ok o)
    → Shows u o d t → first ≡ first_false (moment_has f d t o) moment_parts → first ≡ Some p
    → IsStamped f u (Err (error.Contradiction p))
contradicted f u s d t o first p e has one shows is some = (
  determined f s e,
  (
    (λ x v q at.
        let same = one q (zone_has f s q e at.1) in
        let instant : utc_nanoseconds d t o ≡ utc_nanoseconds x v q = shows.0 ∙ sym at.0.0 in
        let local = one_local d x t v o q same instant in
        sym (first_of_same f d x t v o q local.0 local.1 same instant) ∙ sym is ∙ some),
    (λ none.
        absurd (none d t o (shows, subst (λ (r : Result Shift OffsetPart). HasShift r o) (sym e) has))),
  ),
)

-- no clock is that far from UTC
pub unshifted : (f : Fields) (u : UnixTime) (s : Shift) (p : OffsetPart) → zone_read f ≡ Ok s
    → Selects (ShiftHas s) (Err p) → shift_fault s ≡ Some p
    → IsStamped f u (Err (error.Contradiction (part.Offset p)))
unshifted f u s p e none fault = (
  determined f s e,
  (
    (λ x v q at. absurd (none q (zone_has f s q e at.1))),
    (λ _. ap (stamp_fault f) e ∙ ap (λ (q : Option OffsetPart). Some (part_or_stamp f q)) fault),
  ),
)

-- the clock shows nothing at the instant
pub unshown : (f : Fields) (u : UnixTime) (s : Shift) (o : UtcOffset) (p : InstantPart)
    → zone_read f ≡ Ok s → Selects (ShiftHas s) (Ok o) → shift_fault s ≡ None → IsShownAt u o None
    → p ≡ finest f → IsStamped f u (Err (error.Contradiction (part.Instant p)))
unshown f u s o p e one sound none is = (
  determined f s e,
  (
    (λ x v q at.
        let same = one q (zone_has f s q e at.1) in
        let moved : utc_nanoseconds x v o ≡ utc_nanoseconds x v q = moved_to x v o q same in
        absurd (none x v (moved ∙ at.0.0, at.0.1))),
    (λ _. ap (stamp_fault f) e ∙ ap (λ (q : Option OffsetPart). Some (part_or_stamp f q)) sound
        ∙ ap (λ (q : InstantPart). Some (part.Instant q)) (sym is)),
  ),
)
  where
    moved_to : (x : Date) (v : Time) (o q : UtcOffset) → of_offset.IsSame o q
        → utc_nanoseconds x v o ≡ utc_nanoseconds x v q
    moved_to x v o q same = λ i.
        (if same.1 i then local_seconds x v + same.0 i else local_seconds x v - same.0 i) * 1000000000
        + v.nanosecond
