-- Bytes that begin with a word, by comparing lanes.
use Rattle.std.proofs.Common.{◌≡◌, ℕ, ◌+◌, ◌*◌, ◌%◌, ◌^◌, ◌≤◌, Bool, true, false, not, eqb, eqb-true, cond, List, [], ◌∷◌, ◌++◌, length, map, take, nat_eq, w8, refl, sym, ap, ap₂, ◌∙◌, arith, take-take, IsTrue}
use Rattle.std.proofs.Math.Seq.{take-add, take-length}
use Rattle.std.proofs.lemmas.Simd.{tops_compared, mask_l-mod, length-zip2}
use Rattle.std.specs.Simd.Lanes.{zip2, mask_l, top, chunk}

abbrev differ : ℕ → ℕ → Bool
differ a b = not (eqb a b)

half : (k : ℕ) → 0 + 2 * k ≡ 0 → k ≡ 0
half k e = omega (arith, e)

odd : {A : Type 0} (k : ℕ) → 1 + 2 * k ≡ 0 → A
odd k e = absurd (omega (arith, e))

none_differ : (xs ys : List ℕ) → length xs ≡ length ys → mask_l (zip2 differ xs ys) ≡ 0 → xs ≡ ys
none_differ [] [] long e = refl
none_differ [] (y ∷ ys) long e = absurd (omega (arith, long))
none_differ (x ∷ xs) [] long e = absurd (omega (arith, long))
none_differ (x ∷ xs) (y ∷ ys) long e =
    by (eqb x y) refl e (none_differ xs ys (omega (arith, long)))
  where
    by : (t : Bool) → eqb x y ≡ t
        → cond (not t) 1 0 + 2 * mask_l (zip2 differ xs ys) ≡ 0
        → (mask_l (zip2 differ xs ys) ≡ 0 → xs ≡ ys) → x ∷ xs ≡ y ∷ ys
    by true h f more = ap₂ (λ z zs. z ∷ zs) (eqb-true x y h) (more (half _ f))
    by false h f more = odd _ f

pub zero_of : (k : ℕ) → IsTrue (not (not (nat_eq k 0))) → k ≡ 0
zero_of k is = eqb-true k 0 (twice (nat_eq k 0) is)
  where
    twice : (b : Bool) → IsTrue (not (not b)) → b ≡ true
    twice true is = refl
    twice false is = is

-- if no lane differs, the lanes are the same
pub lanes_same : (xs ys : List ℕ) (n : ℕ) → length xs ≡ n → length ys ≡ n → n ≤ 64
    → IsTrue (not (not (nat_eq (mask_l (map (top 7)
    (zip2 (λ a b. cond (differ a b) 255 0) xs ys)) % 18446744073709551616) 0)))
    → xs ≡ ys
lanes_same xs ys n long long' small is =
    none_differ xs ys (long ∙ sym long')
    (sym (mask_l-mod (zip2 differ xs ys) 64
    (omega (arith, length-zip2 differ xs ys (long ∙ sym long'), long, small)))
    ∙ ap (λ ms. mask_l ms % 2 ^ 64) (sym (tops_compared w8 differ xs ys))
    ∙ zero_of _ is)

-- a front and an end that overlap
pub both_ends : (k n l : ℕ) (word bytes : List ℕ) → k + n ≡ l → length word ≡ l → k ≤ n
    → chunk 0 n word ≡ chunk 0 n bytes → chunk k n word ≡ chunk k n bytes → word ≡ take l bytes
both_ends k n l word bytes sum long le front end =
    let fronts : take k word ≡ take k bytes =
    sym (take-take k n word le) ∙ ap (take k) front ∙ take-take k n bytes le in
    sym (take-length word) ∙ ap (λ j. take j word) (long ∙ sym sum) ∙ take-add k n word
    ∙ ap₂ (λ x y. x ++ y) fronts end ∙ sym (take-add k n bytes) ∙ ap (λ j. take j bytes) sum
