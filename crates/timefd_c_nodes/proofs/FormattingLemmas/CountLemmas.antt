-- A number that is not zero, as nodes have it.
use Rattle.std.proofs.Common.{◌≡◌, ◌∙◌, ℕ, zero, suc, ◌<◌, Option, Some, None, sym, ap, arith}
use Rattle.std.proofs.Math.Bridge.{le_prop}
use Rattle.std.specs.Prelude.{MatchOption}
use Rattle.std.specs.Int.NonZero.{non_zero_u16_get}
use native.Mathlib.Nat.{zero-lt-suc}
use Rattle.std.specs.declared.num.NonZeroU16.{NonZeroU16}
use Rattle.timefd_c_nodes.specs.Decoding.{count_of}

count_back : (c : NonZeroU16) → count_of c.value ≡ Some c
count_back c = by c.value c.ok
  where
    by : (n : ℕ) (p : 0 < n) → ◌≡◌ {A = Option NonZeroU16} (count_of n)
        (Some (record { value = n; ok = p }))
    by zero p = absurd (omega (arith, p))
    by (suc n) p = ap {B = Option NonZeroU16} (λ q. Some (record { value = suc n; ok = q }))
        (le_prop (zero-lt-suc n) p)

pub counted : (n : ℕ) (r : Option NonZeroU16) → MatchOption r (n ≡ 0) (λ x. non_zero_u16_get x ≡ n)
    → r ≡ count_of n
counted n None h = sym (ap count_of h)
counted n (Some x) h = sym (count_back x) ∙ ap count_of h
