-- A list and its first element, as a pattern names them.
use Rattle.std.proofs.Common.{ℕ, ◌≡◌, ◌≤◌, ◌-◌, List, [], ◌∷◌, length, get_or, take, drop, sym, ap, ◌∙◌, arith}
use Rattle.std.proofs.Math.Seq.{take-length}

pub split_item : {X : Type 0} (rest : List X) (x : X) (n : ℕ) → n ≡ length rest → 1 ≤ length rest → x ≡ get_or rest 0 x
    → rest ≡ x ∷ take (n - 1) (drop 1 rest)
split_item [] x n same some is = absurd (omega (arith, some))
split_item (y ∷ rest) x n same some is =
    let few : n - 1 ≡ length rest = omega (arith, same) in
    sym (ap (λ z. z ∷ take (n - 1) rest) is ∙ (ap (λ k. y ∷ take k rest) few ∙ ap (λ r. y ∷ r) (take-length rest)))
