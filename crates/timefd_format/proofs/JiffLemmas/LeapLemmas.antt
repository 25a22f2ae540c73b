-- Leap years, for years counted from -1,000,000 and for signed years.
use Rattle.std.proofs.Common.{ℕ, suc, ◌≡◌, ◌∙◌, ◌+◌, ◌-◌, ◌%◌, ◌==◌, ◌||◌, if◌then◌else◌, ℤ, pos, negsuc, ◌+ℤ◌, unsigned_abs, sym, ap, arith}
use Rattle.jiff_core.specs.Calendar.{IsYear, is_leap_year, days_in_month as jiff_days}
use Rattle.jiff.proofs.SpanFacts.{signed_arith}
use Rattle.std.specs.Int.{IsInRange}
use Rattle.timefd_date_moment.specs.Calendar.{IsDay, counted, is_leap, days_in_month}
use Rattle.timefd_date_moment.proofs.LeapLemmas.{leap_of, periods_apart, same}

-- numbers whose sum is a multiple of 400
together : (c s : ℕ) → c + s ≡ 1000000 → is_leap c ≡ is_leap s
together c s e =
    let four : (c % 4 == 0) ≡ (s % 4 == 0) = same (c % 4) (s % 4) (λ h. omega (arith, e, h)) (λ h. omega (arith, e, h)) in
    let hundred : (c % 100 == 0) ≡ (s % 100 == 0) = same (c % 100) (s % 100) (λ h. omega (arith, e, h)) (λ h. omega (arith, e, h)) in
    let all : (c % 400 == 0) ≡ (s % 400 == 0) = same (c % 400) (s % 400) (λ h. omega (arith, e, h)) (λ h. omega (arith, e, h)) in
    λ i. leap_of (four i) (hundred i) (all i)

pub counted_is : (y : ℤ) → IsYear y → pos (counted y) ≡ y +ℤ pos 1000000
counted_is (pos n) is = omega (arith, signed_arith)
counted_is (negsuc n) is =
    let small : IsYear (negsuc n) = is in
    let e : negsuc n +ℤ pos 1000000 ≡ pos (999999 - n) = omega (arith, signed_arith, small) in
    ap pos (ap unsigned_abs e) ∙ sym e

pub leap : (y : ℤ) → IsYear y → is_leap (counted y) ≡ is_leap_year y
leap (pos n) is = periods_apart (counted (pos n)) n 2500 (omega (arith, signed_arith))
leap (negsuc n) is =
    together (counted (negsuc n)) (suc n) (omega (arith, signed_arith, is, counted_is (negsuc n) is))

pub same_months : (y : ℤ) (m : ℕ) → IsYear y → days_in_month (counted y) m ≡ jiff_days y m
same_months y m is =
    ap (λ b. if m == 2 then (if b then 29 else 28) else (if (m == 4) || (m == 6) || (m == 9) || (m == 11) then 30 else 31)) (leap y is)

-- the bounds of a day of `jiff` are those of a date
pub day_in : (y : ℤ) (years m d : ℕ) → years ≡ counted y → IsYear y → IsInRange 1 12 m
    → IsInRange 1 (jiff_days y m) d → IsDay years m d
day_in y years m d e is month day = (
  omega (arith, signed_arith, is, e, counted_is y is),
  omega (arith, signed_arith, is, e, counted_is y is),
  month.0,
  month.1,
  day.0,
  omega (arith, day.1, same_months y m is, ap (λ x. days_in_month x m) e),
)

-- and the other way round
pub day_back : (y : ℤ) (years m d : ℕ) → years ≡ counted y → IsYear y → IsDay years m d
    → IsInRange 1 (jiff_days y m) d
day_back y years m d e is all = (all.4, omega (arith, all.5, same_months y m is, ap (λ x. days_in_month x m) e))
