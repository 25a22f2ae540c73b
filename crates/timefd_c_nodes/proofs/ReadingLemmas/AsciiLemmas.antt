-- Bytes below 128, from a comparison of lanes.
use Rattle.std.proofs.Common.{◌≡◌, ℕ, zero, suc, ◌+◌, ◌-◌, ◌*◌, ◌%◌, ◌^◌, ◌≤◌, ◌<◌, Bool, true, false, not, nat_eq, nat_le, cond, List, [], ◌∷◌, length, map, get_or, slice_index, replicate, inl, inr, w8, refl, sym, ap, ◌∙◌, arith, IsTrue, subst}
use Rattle.std.proofs.lemmas.Bool.{cases_lt, leb-false}
use Rattle.std.proofs.lemmas.List.{get_or_past, length-replicate}
use Rattle.std.proofs.lemmas.Simd.{tops_compared, mask_l-mod, length-zip2}
use Rattle.std.specs.Simd.Lanes.{zip2, mask_l, top}
use Rattle.std.specs.Str.{IsAscii}
use Rattle.timefd_parse.proofs.BeginLemmas.{zero_of}

-- if no lane is marked, each byte is low
none_high : (xs : List ℕ) (n : ℕ) → length xs ≡ n → mask_l (zip2 (λ a b. nat_le a b) (replicate n 128) xs) ≡ 0
    → (i : ℕ) → i < n → get_or xs i 0 < 128
none_high [] n long e i below = absurd (omega (arith, long, below))
none_high (x ∷ xs) zero long e i below = absurd (omega (arith, below))
none_high (x ∷ xs) (suc n) long e i below =
    by (nat_le 128 x) refl e (none_high xs n (omega (arith, long))) i below
  where
    by : (t : Bool) → nat_le 128 x ≡ t
        → cond t 1 0 + 2 * mask_l (zip2 (λ a b. nat_le a b) (replicate n 128) xs) ≡ 0
        → (mask_l (zip2 (λ a b. nat_le a b) (replicate n 128) xs) ≡ 0 → (i : ℕ) → i < n → get_or xs i 0 < 128)
        → (i : ℕ) → i < suc n → get_or (x ∷ xs) i 0 < 128
    by true h f more i under = absurd (omega (arith, f))
    by false h f more zero under = omega (arith, leb-false 128 x h)
    by false h f more (suc i) under = more (omega (arith, f)) i (omega (arith, under))

pub all_low : (xs : List ℕ) (n : ℕ) → length xs ≡ n → n ≤ 64
    → IsTrue (not (not (nat_eq (mask_l (map (top 7)
    (zip2 (λ a b. cond (nat_le a b) 255 0) (replicate n 128) xs)) % 18446744073709551616) 0)))
    → (i : ℕ) → i < n → get_or xs i 0 < 128
all_low xs n long small is =
    none_high xs n long
    (sym (mask_l-mod (zip2 (λ a b. nat_le a b) (replicate n 128) xs) 64
    (omega (
      arith,
      length-zip2 (λ (a b : ℕ). nat_le a b) (replicate n 128) xs
          (length-replicate {A = ℕ} n 128 ∙ sym long),
      long,
      small,
      length-replicate {A = ℕ} n 128,
    )))
    ∙ ap (λ ms. mask_l ms % 2 ^ 64) (sym (tops_compared w8 (λ a b. nat_le a b) (replicate n 128) xs))
    ∙ zero_of _ is)

-- low bytes, and `n` more
pub low_more : (bytes : List ℕ) (at n : ℕ) → ((i : ℕ) → i < at → slice_index bytes i < 128)
    → ((i : ℕ) → i < n → slice_index bytes (at + i) < 128)
    → (i : ℕ) → i < at + n → slice_index bytes i < 128
low_more bytes at n low next i below =
    elim (cases_lt i at) [
      | inl before ↦ low i before
      | inr after ↦
          let same : at + (i - at) ≡ i = omega (arith, after) in
          subst (λ (k : ℕ). slice_index bytes k < 128) same (next (i - at) (omega (arith, below, after)))
    ]

-- low bytes in front, and the last `n`, which may overlap with them
pub all_ascii : (bytes : List ℕ) (at n : ℕ) → length bytes - at ≤ n → n ≤ length bytes
    → ((i : ℕ) → i < at → slice_index bytes i < 128)
    → ((i : ℕ) → i < n → slice_index bytes (length bytes - n + i) < 128) → IsAscii bytes
all_ascii bytes at n near some low last i =
    elim (cases_lt i (length bytes)) [
      | inl inside ↦ low_more bytes (length bytes - n) n
          (λ k before. low k (omega (arith, before, near, some))) last i (omega (arith, inside, some))
      | inr over ↦ omega (arith, get_or_past bytes i 0 (omega (arith, over)))
    ]
