-- Which years are leap years, by three tests of their number.
use Rattle.std.proofs.Common.{ℕ, ◌≡◌, ◌≢◌, ◌∙◌, ◌⊎◌, inl, inr, ◌+◌, ◌*◌, ◌%◌, ◌==◌, ◌||◌, ◌&&◌, not, Bool, true, false, refl, sym, arith}
use Rattle.std.proofs.Math.Dec.{eqb}
use Rattle.std.proofs.lemmas.Bool.Decides.{eqb_tells}
use Rattle.timefd_date_moment.specs.Calendar.{is_leap}

-- two numbers, each of which is 0 if the other is
pub same : (a b : ℕ) → (a ≡ 0 → b ≡ 0) → (b ≡ 0 → a ≡ 0) → (a == 0) ≡ (b == 0)
same a b f g = by (eqb_tells a 0) (eqb_tells b 0)
  where
    by : ((eqb a 0 ≡ true) × (a ≡ 0)) ⊎ ((eqb a 0 ≡ false) × (a ≢ 0))
        → ((eqb b 0 ≡ true) × (b ≡ 0)) ⊎ ((eqb b 0 ≡ false) × (b ≢ 0)) → (a == 0) ≡ (b == 0)
    by (inl x) (inl y) = x.0 ∙ sym y.0
    by (inl x) (inr y) = absurd (y.1 (f x.1))
    by (inr x) (inl y) = absurd (x.1 (g y.1))
    by (inr x) (inr y) = x.0 ∙ sym y.0

pub none_left : (a : ℕ) → a ≡ 0 → (a == 0) ≡ true
none_left a e = same a 0 (λ _. refl) (λ _. e)

pub some_left : (a : ℕ) → a ≢ 0 → (a == 0) ≡ false
some_left a e = same a 1 (λ h. absurd (e h)) (λ h. absurd (omega (arith, h)))

-- divisible by 4, by 100, by 400
abbrev pub leap_of : Bool → Bool → Bool → Bool
leap_of a b c = a && (not b || c)

-- numbers that differ by whole periods of 400
pub periods_apart : (c s k : ℕ) → c ≡ s + 400 * k → is_leap c ≡ is_leap s
periods_apart c s k e =
    let four : (c % 4 == 0) ≡ (s % 4 == 0) = same (c % 4) (s % 4) (λ h. omega (arith, e, h)) (λ h. omega (arith, e, h)) in
    let hundred : (c % 100 == 0) ≡ (s % 100 == 0) = same (c % 100) (s % 100) (λ h. omega (arith, e, h)) (λ h. omega (arith, e, h)) in
    let all : (c % 400 == 0) ≡ (s % 400 == 0) = same (c % 400) (s % 400) (λ h. omega (arith, e, h)) (λ h. omega (arith, e, h)) in
    λ i. leap_of (four i) (hundred i) (all i)
