-- The numbers of a moment mean that moment, and are in their ranges.
use Rattle.std.proofs.Common.{rules, ◌≡◌, ◌∙◌, ◌≤◌, ◌+◌, ◌/◌, ◌%◌, ◌==◌, ℕ, ℤ, pos, ◌+ℤ◌, unsigned_abs, nat_lt, Bool, true, false, Option, Some, None, is_some, refl, sym, ap}
use Rattle.timefd_c.specs.declared.moment.MomentFields.{MomentFields}
use Rattle.timefd_c.specs.Moments.{AreNumbers, AreOfDate, AreOfTime, IsDate, IsMoment, IsOffset, IsTime, date_bit, date_range, first_of, offset_bit, offset_number, offset_range, range_fault, time_bit, time_range}
use Rattle.timefd_date_moment.specs.Calendar.{IsDay}
use Rattle.timefd_date_moment.specs.Faults.{date_fault, time_fault}
use Rattle.timefd_date_moment.specs.Signed.{signed}
use Rattle.timefd_date_moment.specs.declared.date.Date.{Date}
use Rattle.timefd_date_moment.specs.declared.moment.Moment.{Moment}
use Rattle.timefd_date_moment.specs.declared.offset.UtcOffset.{UtcOffset}
use Rattle.timefd_date_moment.specs.declared.time.Time.{Time}

-- which parts the sum says are known

date_known : (d : Option Date) (t : Option Time) (o : Option UtcOffset)
    → ((date_bit d + time_bit t + offset_bit o) % 2 == 1) ≡ is_some d
date_known (Some d) (Some t) (Some o) = refl
date_known (Some d) (Some t) None = refl
date_known (Some d) None (Some o) = refl
date_known (Some d) None None = refl
date_known None (Some t) (Some o) = refl
date_known None (Some t) None = refl
date_known None None (Some o) = refl
date_known None None None = refl

time_known : (d : Option Date) (t : Option Time) (o : Option UtcOffset)
    → ((date_bit d + time_bit t + offset_bit o) / 2 % 2 == 1) ≡ is_some t
time_known (Some d) (Some t) (Some o) = refl
time_known (Some d) (Some t) None = refl
time_known (Some d) None (Some o) = refl
time_known (Some d) None None = refl
time_known None (Some t) (Some o) = refl
time_known None (Some t) None = refl
time_known None None (Some o) = refl
time_known None None None = refl

offset_known : (d : Option Date) (t : Option Time) (o : Option UtcOffset)
    → ((date_bit d + time_bit t + offset_bit o) / 4 % 2 == 1) ≡ is_some o
offset_known (Some d) (Some t) (Some o) = refl
offset_known (Some d) (Some t) None = refl
offset_known (Some d) None (Some o) = refl
offset_known (Some d) None None = refl
offset_known None (Some t) (Some o) = refl
offset_known None (Some t) None = refl
offset_known None None (Some o) = refl
offset_known None None None = refl

module _ (f : MomentFields) where
  date_same : (d : Option Date) (t : Option Time) (o : Option UtcOffset)
      → f.known ≡ date_bit d + time_bit t + offset_bit o → AreOfDate d f.year f.month f.day
      → IsDate f d
  date_same (Some d) t o known are = (
    ap (λ n. n % 2 == 1) known ∙ date_known (Some d) t o,
    sym (ap unsigned_abs are.0),
    sym are.1,
    sym are.2,
  )
  date_same None t o known are = ap (λ n. n % 2 == 1) known ∙ date_known None t o

  time_same : (d : Option Date) (t : Option Time) (o : Option UtcOffset)
      → f.known ≡ date_bit d + time_bit t + offset_bit o
      → AreOfTime t f.hour f.minute f.second f.nanosecond → IsTime f t
  time_same d (Some t) o known are = (
    ap (λ n. n / 2 % 2 == 1) known ∙ time_known d (Some t) o,
    sym are.0,
    sym are.1,
    sym are.2,
    sym are.3,
  )
  time_same d None o known are = ap (λ n. n / 2 % 2 == 1) known ∙ time_known d None o

  offset_same : (d : Option Date) (t : Option Time) (o : Option UtcOffset)
      → f.known ≡ date_bit d + time_bit t + offset_bit o → f.offset_seconds ≡ offset_number o
      → IsOffset f o
  offset_same d t (Some o) known are = (
    ap (λ n. n / 4 % 2 == 1) known ∙ offset_known d t (Some o),
    sym are,
  )
  offset_same d t None known are = ap (λ n. n / 4 % 2 == 1) known ∙ offset_known d t None

  pub same : (m : Moment) → AreNumbers m f → IsMoment f m
  same m are = (
    date_same m.date m.time m.offset are.known are.date,
    time_same m.date m.time m.offset are.known are.time,
    offset_same m.date m.time m.offset are.known are.offset,
  )

-- the ranges

year_fits : (year : ℤ) (years : ℕ) → year +ℤ pos 1000000 ≡ pos years → 1 ≤ years → years ≤ 1999999
    → nat_lt 999999 (unsigned_abs year) ≡ false
year_fits year years e low high = search rules

date_fits : (year : ℤ) (years month day : ℕ) → year +ℤ pos 1000000 ≡ pos years
    → IsDay years month day → date_fault year month day ≡ None
date_fits year years month day e is = search rules

time_fits : (h m s n : ℕ) → h ≤ 23 → m ≤ 59 → s ≤ 59 → n ≤ 999999999 → time_fault h m s n ≡ None
time_fits h m s n a b c d = search rules

offset_fits : (is_negative : Bool) (seconds : ℕ) → seconds ≤ 93599
    → nat_lt 93599 (unsigned_abs (signed is_negative seconds)) ≡ false
offset_fits true seconds e = search rules
offset_fits false seconds e = search rules

module _ (f : MomentFields) where
  date_in : (d : Option Date) (t : Option Time) (o : Option UtcOffset)
      → f.known ≡ date_bit d + time_bit t + offset_bit o → AreOfDate d f.year f.month f.day
      → date_range f ≡ None
  date_in (Some d) t o k are = search rules
  date_in None t o k are = search rules

  time_in : (d : Option Date) (t : Option Time) (o : Option UtcOffset)
      → f.known ≡ date_bit d + time_bit t + offset_bit o
      → AreOfTime t f.hour f.minute f.second f.nanosecond → time_range f ≡ None
  time_in d (Some t) o k are = search rules
  time_in d None o k are = search rules

  offset_in : (d : Option Date) (t : Option Time) (o : Option UtcOffset)
      → f.known ≡ date_bit d + time_bit t + offset_bit o
      → f.offset_seconds ≡ offset_number o → offset_range f ≡ None
  offset_in d t (Some o) k are = search rules
  offset_in d t None k are = search rules

pub in_range : (m : Moment) (f : MomentFields) → AreNumbers m f → range_fault f ≡ None
in_range m f are =
    ap (λ a. first_of a (first_of (time_range f) (offset_range f)))
    (date_in f m.date m.time m.offset are.known are.date)
    ∙ (ap (λ a. first_of a (offset_range f)) (time_in f m.date m.time m.offset are.known are.time)
    ∙ offset_in f m.date m.time m.offset are.known are.offset)
