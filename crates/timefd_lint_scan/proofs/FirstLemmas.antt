-- Texts with a first byte, and without.
use Rattle.std.proofs.Common.{ℕ, ◌≡◌, ◌<◌, ◌≤◌, ◌-◌, List, [], ◌∷◌, length, get_or, take, drop, refl, sym, ap, take_all, arith}

pub split : (text : List ℕ) → 1 ≤ length text
    → text ≡ get_or text 0 0 ∷ take (length text - 1) (drop 1 text)
split [] le = absurd (omega arith)
split (b ∷ bytes) le =
    ap (λ (t : List ℕ). b ∷ t) (sym (take_all (length (b ∷ bytes) - 1) bytes (omega arith)))

pub none : (text : List ℕ) → length text < 1 → text ≡ []
none [] le = refl
none (b ∷ bytes) le = absurd (omega arith)
