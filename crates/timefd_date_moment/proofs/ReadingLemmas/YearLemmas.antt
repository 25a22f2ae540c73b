-- A year that was read is the year that it was read from.
use Rattle.std.proofs.Common.{ℕ, ◌≡◌, ◌∙◌, ◌+◌, ◌-◌, ◌*◌, ◌/◌, ◌%◌, ◌≤◌, ◌⊎◌, inl, inr, ◌==◌, ◌&&◌, ◌||◌, Bool, true, false, nat_lt, min, Option, Some, None, if◌then◌else◌, refl, sym, arith}
use Rattle.std.specs.Prelude.{⊤}
use Rattle.std.proofs.Math.Nat.{min-eq_left}
use Rattle.std.proofs.lemmas.Bool.{eqb-true, ltb-true, ltb-false, or_cases}
use Rattle.timefd_date_moment.specs.Moments.{magnitude, is_before_zero}
use Rattle.timefd_date_moment.specs.declared.fields.fields.Signed.{Signed}
use Rattle.timefd_date_moment.specs.Fields.Readings.{same}
use Rattle.timefd_date_moment.specs.Reading.Shown.{is_century, is_last_two, is_year}
use Rattle.timefd_date_moment.specs.Reading.Years.{years_of, years_read}

pub both : (a b : Bool) → (a && b) ≡ true → (a ≡ true) × (b ≡ true)
both true b e = (refl, e)
both false b e = absurd cc

-- the sign counts, except for zero
signed : (a t : Bool) (m n : ℕ) → t ≡ nat_lt n 1000000 → n ≤ 2000000 → min m 1000000 ≡ m
    → m ≡ (if t then 1000000 - n else n - 1000000) → (m ≡ 0) ⊎ (same a t ≡ true) → years_of a m ≡ n
signed true true m n t h k e s = omega (arith, ltb-true _ _ (sym t), h, k, e)
signed true false m n t h k e (inl z) = omega (arith, ltb-false _ _ (sym t), h, k, e, z)
signed true false m n t h k e (inr s) = absurd cc
signed false true m n t h k e (inl z) = absurd (omega (arith, ltb-true _ _ (sym t), h, k, e, z))
signed false true m n t h k e (inr s) = absurd cc
signed false false m n t h k e s = omega (arith, ltb-false _ _ (sym t), h, k, e)

small : (t : Bool) (n : ℕ) → n ≤ 2000000 → t ≡ nat_lt n 1000000
    → (if t then 1000000 - n else n - 1000000) ≤ 1000000
small true n h e = omega arith
small false n h e = omega (arith, h)

pub magnitude_small : (n : ℕ) → n ≤ 2000000 → magnitude n ≤ 1000000
magnitude_small n h = small (nat_lt n 1000000) n h refl

same_sign : (a : Bool) (m n : ℕ) → m ≡ magnitude n
    → ((magnitude n == 0) || same a (is_before_zero n)) ≡ true
    → (m ≡ 0) ⊎ (same a (is_before_zero n) ≡ true)
same_sign a m n e s = by (or_cases (magnitude n == 0) (same a (is_before_zero n)) s)
  where
    by : ((magnitude n == 0) ≡ true) ⊎ (same a (is_before_zero n) ≡ true)
        → (m ≡ 0) ⊎ (same a (is_before_zero n) ≡ true)
    by (inl z) = inl (e ∙ eqb-true (magnitude n) 0 z)
    by (inr is) = inr is

year_at : (a : Bool) (m n : ℕ) → n ≤ 2000000 → m ≡ magnitude n
    → ((magnitude n == 0) || same a (is_before_zero n)) ≡ true → years_of a m ≡ n
year_at a m n h e s =
    let most : m ≤ 1000000 = omega (arith, e, magnitude_small n h) in
    signed a (nat_lt n 1000000) m n refl h (min-eq_left most) e (same_sign a m n e s)

year_is : (s : Signed) (n : ℕ) → n ≤ 2000000 → is_year (Some s) n ≡ true
    → years_of s.is_negative s.magnitude ≡ n
year_is s n h e =
    let parts = both (s.magnitude == magnitude n)
    ((magnitude n == 0) || same s.is_negative (is_before_zero n)) e in
    year_at s.is_negative s.magnitude n h (eqb-true s.magnitude (magnitude n) parts.0) parts.1

joined : (c l m : ℕ) → m ≤ 1000000 → c ≡ m / 100 → l ≡ m % 100 → min c 10000 * 100 + l ≡ m
joined c l m h e k =
    let most : min c 10000 ≡ c = min-eq_left (omega (arith, h, e)) in
    omega (arith, most, h, e, k)

century_is : (c : Signed) (l n : ℕ) → n ≤ 2000000 → is_century (Some c) n ≡ true
    → is_last_two (Some l) n ≡ true → years_of c.is_negative (min c.magnitude 10000 * 100 + l) ≡ n
century_is c l n h e k =
    let parts = both (c.magnitude == magnitude n / 100)
    ((magnitude n == 0) || same c.is_negative (is_before_zero n)) e in
    year_at c.is_negative (min c.magnitude 10000 * 100 + l) n h
    (joined c.magnitude l (magnitude n) (magnitude_small n h)
    (eqb-true c.magnitude (magnitude n / 100) parts.0) (eqb-true l (magnitude n % 100) k)) parts.1

-- a year that is known is this one
abbrev pub Known : Option ℕ → ℕ → Type 0
Known None n = ⊤
Known (Some y) n = y ≡ n

pub years_known : (year century : Option Signed) (two : Option ℕ) (n : ℕ) → n ≤ 2000000
    → is_year year n ≡ true → is_century century n ≡ true → is_last_two two n ≡ true
    → Known (years_read year century two) n
years_known (Some s) century two n h y c l = year_is s n h y
years_known None None two n h y c l = tt
years_known None (Some s) None n h y c l = tt
years_known None (Some s) (Some k) n h y c l = century_is s k n h c l
