-- Lanes that are compared with three bytes, and the front before the first of those bytes.
use Rattle.std.proofs.Common.{◌≡◌, ℕ, ◌+◌, ◌-◌, ◌%◌, ◌^◌, ◌≤◌, ◌<◌, Bool, true, false, ◌||◌, eqb, cond, List, length, get_or, map, replicate, nat_le, w8, refl, sym, ap, ◌∙◌, subst, arith, bit_or, min, inl, inr}
use Rattle.std.proofs.lemmas.Bool.{cases_lt, true≢false}
use Rattle.std.proofs.lemmas.List.{length-map}
use Rattle.std.proofs.lemmas.List.Sums.{prefix_len-le-length, prefix_len_passes, prefix_len_stops, prefix_len_is}
use Rattle.std.proofs.lemmas.Simd.{zip2_splat, zip2-map, map-map, mask_l-mod, length-chunk, get_or-chunk, bitmask_splat, trailing_mask_l}
use Rattle.std.specs.List.{prefix_len}
use Rattle.std.specs.Simd.Lanes.{zip2, mask_l, top, chunk}
use lib.Count.{count_trailing_zeros}
use Rattle.timefd_language.specs.Cut.{is_high}

abbrev pub is_one_of : ℕ → ℕ → ℕ → ℕ → Bool
is_one_of first second third b = (eqb b first || eqb b second) || eqb b third

abbrev lane : Bool → ℕ
lane b = cond b 255 0

-- the lanes that are equal to this byte
abbrev equal_to : List ℕ → ℕ → ℕ → List ℕ
equal_to bytes n b = zip2 (λ x y. lane (eqb x y)) bytes (replicate n b)

either_lane : (a b : Bool) → bit_or (lane a) (lane b) ≡ lane (a || b)
either_lane true true = refl
either_lane true false = refl
either_lane false true = refl
either_lane false false = refl

top_lane : (b : Bool) → top 7 (lane b) ≡ b
top_lane true = refl
top_lane false = refl

lanes_or : (f g : ℕ → Bool) (bytes : List ℕ)
    → zip2 bit_or (map (λ x. lane (f x)) bytes) (map (λ x. lane (g x)) bytes) ≡ map
    (λ x. lane (f x || g x)) bytes
lanes_or f g bytes = zip2-map bit_or (λ x. lane (f x)) (λ x. lane (g x)) bytes ∙
    (λ i. map (λ x. either_lane (f x) (g x) i) bytes)

pub marks_are : (bytes : List ℕ) (n a b c : ℕ) → length bytes ≡ n → n ≤ 64
    → mask_l (map (top 7) (zip2 bit_or (zip2 bit_or (equal_to bytes n a) (equal_to bytes n b))
    (equal_to bytes n c))) % 2 ^ 64 ≡ mask_l (map (is_one_of a b c) bytes)
marks_are bytes n a b c long small =
    ap (λ ms. mask_l (map (top 7) ms) % 2 ^ 64) (
    (λ i. zip2 bit_or (zip2 bit_or (compared a i) (compared b i)) (compared c i))
    ∙ ap (λ ms. zip2 bit_or ms (map (λ x. lane (eqb x c)) bytes))
    (lanes_or (λ x. eqb x a) (λ x. eqb x b) bytes)
    ∙ lanes_or (λ x. eqb x a || eqb x b) (λ x. eqb x c) bytes)
    ∙ ap (λ ms. mask_l ms % 2 ^ 64) (map-map (top 7) (λ x. lane (is_one_of a b c x)) bytes ∙
    (λ i. map (λ x. top_lane (is_one_of a b c x) i) bytes))
    ∙ mask_l-mod (map (is_one_of a b c) bytes) 64
    (omega (arith, length-map bytes (is_one_of a b c)))
  where
    compared : (y : ℕ) → equal_to bytes n y ≡ map (λ x. lane (eqb x y)) bytes
    compared y = zip2_splat (λ x z. lane (eqb x z)) bytes n y long

-- What a few bytes of a front show about the whole front.
module _ (p : ℕ → Bool) (bytes : List ℕ) (at n : ℕ) (from : at ≤ prefix_len p bytes)
    (within : at + n ≤ length bytes) where
  passes : (k : ℕ) → k < at + prefix_len p (chunk at n bytes) → p (get_or bytes k 0) ≡ true
  passes k below =
      elim (cases_lt k at) [
        | inl before ↦ prefix_len_passes p bytes k 0 (omega (arith, from))
        | inr after ↦
            let back : at + (k - at) ≡ k = omega arith in
            let there : k - at < prefix_len p (chunk at n bytes) = omega (arith, after, below) in
            subst (λ (b : ℕ). p b ≡ true)
            (get_or-chunk at n bytes (k - at) 0
            (omega (
              arith,
              there,
              length-chunk at n bytes within,
              prefix_len-le-length p (chunk at n bytes),
            )) ∙ ap (λ j. get_or bytes j 0) back)
            (prefix_len_passes p (chunk at n bytes) (k - at) 0 there)
      ]

  pub front_in_chunk : at + prefix_len p (chunk at n bytes) ≡ min (at + n) (prefix_len p bytes)
  front_in_chunk =
      let long = length-chunk at n bytes within in
      elim (cases_lt (prefix_len p (chunk at n bytes)) n) [
        | inl stops ↦
            let position = prefix_len_is p bytes (at + prefix_len p (chunk at n bytes)) 0
            (omega (arith, stops)) passes (λ inside.
            subst (λ (b : ℕ). p b ≡ false)
            (get_or-chunk at n bytes (prefix_len p (chunk at n bytes)) 0 stops)
            (prefix_len_stops p (chunk at n bytes) 0 (omega (arith, stops, long)))) in
            omega (arith, stops, position)
        | inr through ↦
            elim (cases_lt (prefix_len p bytes) (at + n)) [
              | inl before ↦ absurd
                  (true≢false (sym (passes (prefix_len p bytes) (omega (arith, before, through))) ∙
                  prefix_len_stops p bytes 0 (omega (arith, before))))
              | inr after ↦ omega (
                arith,
                through,
                after,
                long,
                prefix_len-le-length p (chunk at n bytes),
              )
            ]
      ]

-- The first marked lane is where the higher bytes end, or before that.
pub high_front : (bytes : List ℕ) → 16 ≤ length bytes
    → 0 < mask_l (map (top 7) (zip2 (λ x y. lane (nat_le x y)) (chunk 0 16 bytes) (replicate 16 93)))
    % 2 ^ 64
    → count_trailing_zeros 64 (mask_l (map (top 7) (zip2 (λ x y. lane (nat_le x y))
    (chunk 0 16 bytes) (replicate 16 93))) % 2 ^ 64) ≤ prefix_len is_high bytes
high_front bytes long some =
    let lanes : length (chunk 0 16 bytes) ≡ 16 = length-chunk 0 16 bytes long in
    let marks = bitmask_splat w8 (λ x y. nat_le x y) (chunk 0 16 bytes) 16 93 lanes (omega arith) in
    let position = ap (count_trailing_zeros 64) marks ∙
    trailing_mask_l (λ x. nat_le x 93) 64 (chunk 0 16 bytes) (omega (arith, lanes))
    (subst (λ n. 0 < n) marks some) in
    let front = front_in_chunk is_high bytes 0 16 (omega arith) long in
    subst (λ n. n ≤ prefix_len is_high bytes) (sym position) (omega (arith, front))
