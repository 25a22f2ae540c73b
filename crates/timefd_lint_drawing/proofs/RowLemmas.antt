-- The front of a row of one character is a shorter row.
use Rattle.std.proofs.Common.{ℕ, zero, suc, ◌≡◌, ◌≤◌, [], ◌∷◌, codes, take, refl, ap, arith}
use Rattle.std.specs.List.{repeat}

front_of : (c n m : ℕ) → n ≤ m → take n (repeat m (c ∷ [])) ≡ repeat n (c ∷ [])
front_of c zero m within = refl
front_of c (suc n) zero within = absurd (omega (arith, within))
front_of c (suc n) (suc m) within = ap (λ l. c ∷ l) (front_of c n m (omega (arith, within)))

pub of_spaces : (n : ℕ) → n ≤ 96 → take n (codes "                                                                                                ") ≡ repeat n (codes " ")
of_spaces n within = front_of 32 n 96 within

pub of_carets : (n : ℕ) → n ≤ 96 → take n (codes "^^^^^^^^^^^^^^^^^^^^^^^^^^^^^^^^^^^^^^^^^^^^^^^^^^^^^^^^^^^^^^^^^^^^^^^^^^^^^^^^^^^^^^^^^^^^^^^^") ≡ repeat n (codes "^")
of_carets n within = front_of 94 n 96 within
