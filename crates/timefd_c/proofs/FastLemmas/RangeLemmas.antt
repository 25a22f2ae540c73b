-- Numbers in their ranges.
use Rattle.std.proofs.Common.{rules, ◌≡◌, ◌∙◌, ◌≤◌, ◌<◌, if◌then◌else◌, ℕ, ℤ, pos, ◌≤ℤ◌, unsigned_abs, nat_lt, true, false, Option, Some, None, refl, sym, ap, arith}
use Rattle.timefd_c.specs.declared.moment.MomentFields.{MomentFields}
use Rattle.timefd_c.specs.Moments.{date_range, first_of, has_date, has_offset, has_time, offset_range, range_fault, time_range}
use Rattle.timefd_date_moment.specs.Calendar.{counted, days_in_month}
use Rattle.timefd_date_moment.specs.Faults.{date_fault, time_fault}
use Rattle.timefd_date_moment.specs.declared.component_range.ComponentRange.{ComponentRange}
use Rattle.timefd_date_moment.specs.declared.component_range.ComponentRange.TheVariants as of

pub all_fit : (f : MomentFields) → date_range f ≡ None → time_range f ≡ None → offset_range f ≡ None
    → range_fault f ≡ None
all_fit f d t o =
    ap (λ a. first_of a (first_of (time_range f) (offset_range f))) d
    ∙ (ap (λ a. first_of a (offset_range f)) t ∙ o)

-- If there is no first one, there is none.
none_of : (a b c : Option ComponentRange) → first_of a (first_of b c) ≡ None → (a ≡ None) × (b ≡ None) × (c ≡ None)
none_of (Some a) b c e = absurd cc
none_of None (Some b) c e = absurd cc
none_of None None c e = (refl, refl, e)

pub each_fits : (f : MomentFields) → range_fault f ≡ None
    → (date_range f ≡ None) × (time_range f ≡ None) × (offset_range f ≡ None)
each_fits f e = none_of (date_range f) (time_range f) (offset_range f) e

-- each month has 28 days
has_28 : (y m : ℕ) → 28 ≤ days_in_month y m
has_28 y m = search rules

usual_fits : (year : ℤ) (m d : ℕ) → pos 0 ≤ℤ year → year ≤ℤ pos 9999 → 1 ≤ m → m ≤ 12 → 1 ≤ d → d ≤ 28
    → date_fault year m d ≡ None
usual_fits year m d a b h k i j =
    let long : 28 ≤ days_in_month (counted year) m = has_28 (counted year) m in
    search rules

pub usual_date_fits : (f : MomentFields) → has_date f ≡ true → pos 0 ≤ℤ f.year → f.year ≤ℤ pos 9999
    → 1 ≤ f.month → f.month ≤ 12 → 1 ≤ f.day → f.day ≤ 28 → (has_date f ≡ true) × (date_range f ≡ None)
usual_date_fits f known a b h k i j = (
  known,
  ap (λ b. if b then date_fault f.year f.month f.day else None) known ∙ usual_fits f.year f.month f.day a b h k i j,
)

pub no_time : (f : MomentFields) → has_time f ≡ false → time_range f ≡ None
no_time f none = ap (λ b. if b then time_fault f.hour f.minute f.second f.nanosecond else None) none

pub time_fits : (f : MomentFields) → has_time f ≡ true → f.hour ≤ 23 → f.minute ≤ 59 → f.second ≤ 59
    → f.nanosecond ≤ 999999999 → time_range f ≡ None
time_fits f known a b c d =
    ap (λ b. if b then time_fault f.hour f.minute f.second f.nanosecond else None) known
    ∙ clock f.hour f.minute f.second f.nanosecond a b c d
  where
    clock : (h m s n : ℕ) → h ≤ 23 → m ≤ 59 → s ≤ 59 → n ≤ 999999999 → time_fault h m s n ≡ None
    clock h m s n a b c d = search rules

pub no_offset : (f : MomentFields) → has_offset f ≡ false → offset_range f ≡ None
no_offset f none =
    ap (λ b. if b then (if nat_lt 93599 (unsigned_abs f.offset_seconds) then Some of.Offset else None) else None) none

pub offset_fits : (f : MomentFields) → has_offset f ≡ true → unsigned_abs f.offset_seconds ≤ 93599
    → offset_range f ≡ None
offset_fits f known a =
    ap (λ b. if b then (if nat_lt 93599 (unsigned_abs f.offset_seconds) then Some of.Offset else None) else None) known
    ∙ ap (λ b. if b then Some of.Offset else None) (small (unsigned_abs f.offset_seconds) a)
  where
    small : (n : ℕ) → n ≤ 93599 → nat_lt 93599 n ≡ false
    small n a = search rules

-- What a date, a time of day and an offset in their ranges are.

pub is_day : (year : ℤ) (m d : ℕ) → date_fault year m d ≡ None
    → (unsigned_abs year ≤ 999999) × (1 ≤ m) × (m ≤ 12) × (1 ≤ d) × (d ≤ days_in_month (counted year) m)
is_day year m d e = search rules

is_clock : (h m s n : ℕ) → time_fault h m s n ≡ None → (h ≤ 23) × (m ≤ 59) × (s ≤ 59) × (n ≤ 999999999)
is_clock h m s n e = search rules

pub is_time_of_day : (f : MomentFields) → has_time f ≡ true → time_range f ≡ None
    → (f.hour ≤ 23) × (f.minute ≤ 59) × (f.second ≤ 59) × (f.nanosecond ≤ 999999999)
is_time_of_day f known e =
    is_clock f.hour f.minute f.second f.nanosecond
    (ap (λ b. if b then time_fault f.hour f.minute f.second f.nanosecond else None) (sym known) ∙ e)

short_offset : (seconds : ℤ) → ◌≡◌ {A = Option ComponentRange} (if nat_lt 93599 (unsigned_abs seconds) then Some of.Offset else None) None
    → unsigned_abs seconds ≤ 93599
short_offset seconds e = search rules

pub is_offset_of : (f : MomentFields) → has_offset f ≡ true → offset_range f ≡ None
    → unsigned_abs f.offset_seconds ≤ 93599
is_offset_of f known e =
    short_offset f.offset_seconds
    (ap (λ b. if b then (if nat_lt 93599 (unsigned_abs f.offset_seconds) then Some of.Offset else None) else None)
    (sym known) ∙ e)
