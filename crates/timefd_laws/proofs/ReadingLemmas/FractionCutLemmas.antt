-- A number of nanoseconds that is cut off after some digits.
use Rattle.std.proofs.Common.{ℕ, ◌≡◌, ◌∙◌, ◌≤◌, ◌<◌, ◌-◌, ◌*◌, ◌/◌, ◌^◌, ◌==◌, Bool, true, false, nat_le, if◌then◌else◌}
use Rattle.std.proofs.Common.{Option, None, Some, refl, sym, ap, subst, arith}
use Rattle.std.proofs.Math.Nat.{div-div-eq-div-mul, mul-div_cancel, pow-le-pow_right}
use Rattle.std.proofs.lemmas.Bool.{eq-eqb, leb-false, leb-true}
use Rattle.std.proofs.lemmas.Nat.{pow-add}
use Rattle.timefd_date_moment.specs.declared.fields.fields.Fields.{Fields}
use Rattle.timefd_date_moment.specs.declared.fields.fields.Fraction.{Fraction}
use Rattle.timefd_date_moment.specs.Fields.Readings.{agree, finer, fraction_with, unit, with_fraction}
use Rattle.timefd_laws.specs.Reading.Shown.{cut, cut_where, more_digits}
use Rattle.timefd_laws.proofs.ReadingLemmas.FractionBackLemmas.{unit_is}

-- Cutting twice is the same as cutting after the fewer digits.

some_power : (k : ℕ) → 0 < 10 ^ k
some_power k =
    let from : 0 ≤ k = omega arith in
    let least : 10 ^ 0 ≤ 10 ^ k = pow-le-pow_right (omega arith) from in
    omega (arith, least)

pub some_unit : (k : ℕ) → 0 < unit k
some_unit k = subst (λ (x : ℕ). 0 < x) (sym (unit_is k)) (some_power (9 - k))

coarser : (q n u v : ℕ) → 0 < u → q ≡ n / u → (q * u) / (u * v) ≡ n / (u * v)
coarser q n u v some e =
    sym (div-div-eq-div-mul (q * u) u v) ∙ ap (λ (x : ℕ). x / v) (mul-div_cancel q some ∙ e)
    ∙ div-div-eq-div-mul n u v

cut_again : (a j n : ℕ) → j ≤ a → (n / unit a * unit a) / unit j ≡ n / unit j
cut_again a j n h =
    let parts : unit j ≡ unit a * 10 ^ (9 - j - (9 - a)) =
    unit_is j ∙ ap (λ (k : ℕ). 10 ^ k) (omega (arith, h)) ∙ pow-add 10 (9 - a) (9 - j - (9 - a))
    ∙ ap (λ (x : ℕ). x * 10 ^ (9 - j - (9 - a))) (sym (unit_is a)) in
    ap (λ (x : ℕ). (n / unit a * unit a) / x) parts
    ∙ coarser (n / unit a) n (unit a) (10 ^ (9 - j - (9 - a))) (some_unit a) refl
    ∙ ap (λ (x : ℕ). n / x) (sym parts)

same_at : (a b j n : ℕ) → j ≤ a → j ≤ b
    → ((n / unit a * unit a) / unit j == (n / unit b * unit b) / unit j) ≡ true
same_at a b j n x y = eq-eqb _ _ (cut_again a j n x ∙ sym (cut_again b j n y))

pub same_cut : (f : Fields) (a b n : ℕ)
    → (if agree (cut a n) (cut b n) then Some (with_fraction f (finer (cut a n) (cut b n))) else None)
    ≡ Some (with_fraction f (cut (more_digits (Some a) b) n))
same_cut f a b n = by (nat_le a b) refl
  where
    by : (t : Bool) → t ≡ nat_le a b
        → (if (n / unit a * unit a) / unit (if t then a else b) == (n / unit b * unit b) / unit (if t then a else b)
        then Some (with_fraction f (if t then cut b n else cut a n)) else None)
        ≡ Some (with_fraction f (cut (if t then b else a) n))
    by true e =
        ap (λ c. if c then Some (with_fraction f (cut b n)) else None)
        (same_at a b a n (omega arith) (leb-true a b (sym e)))
    by false e =
        ap (λ c. if c then Some (with_fraction f (cut a n)) else None)
        (same_at a b b n (omega (arith, leb-false a b (sym e))) (omega arith))

-- The digits of a second together with those that were read before.
pub fraction_kept : (f : Fields) (x : Fraction) (a : Option ℕ) (k n : ℕ) → x ≡ cut k n
    → fraction_with f x (cut_where a n) ≡ Some (with_fraction f (cut (more_digits a k) n))
fraction_kept f x None k n e = ap (λ y. Some (with_fraction f y)) e
fraction_kept f x (Some a) k n e = ap (λ y. fraction_with f y (Some (cut a n))) e ∙ same_cut f a k n
