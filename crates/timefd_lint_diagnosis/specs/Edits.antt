-- How many edits it takes from one word to another.
use Rattle.std.specs.Prelude.{ℕ, zero, suc, ◌≡◌, ◌≤◌, ◌<◌, List, [], ◌∷◌, ◌++◌}

-- What one edit makes of the characters at a position: one is put in, taken away or replaced, or
-- two neighbours are swapped.
pub data IsChange : List ℕ → List ℕ → Type 0 where
  put_in : (c : ℕ) → IsChange [] (c ∷ [])
  taken_away : (c : ℕ) → IsChange (c ∷ []) []
  replaced : (c d : ℕ) → IsChange (c ∷ []) (d ∷ [])
  swapped : (c d : ℕ) → IsChange (c ∷ d ∷ []) (d ∷ c ∷ [])

-- One edit turns the first into the second, and what is before and after it stays.
abbrev pub IsEdit : List ℕ → List ℕ → Type 0
IsEdit a b =
    (front : List ℕ) × (back : List ℕ) × (old : List ℕ) × (new : List ℕ) × IsChange old new
    × (a ≡ front ++ (old ++ back)) × (b ≡ front ++ (new ++ back))

-- This many edits, one after another, turn the first into the second.
abbrev pub IsMadeBy : ℕ → List ℕ → List ℕ → Type 0
IsMadeBy zero a b = a ≡ b
IsMadeBy (suc n) a b = (c : List ℕ) × IsEdit a c × IsMadeBy n c b

-- This many edits turn the first into the second, and no fewer do.
pub record IsDistance (a b : List ℕ) (n : ℕ) : Type 0 where
  pub made : IsMadeBy n a b
  pub least : (m : ℕ) → IsMadeBy m a b → n ≤ m

-- This many edits turn the first into the second, and no fewer do; 2 if it takes more than one.
pub record IsFew (a b : List ℕ) (n : ℕ) : Type 0 where
  pub made : n < 2 → IsMadeBy n a b
  pub least : (m : ℕ) → IsMadeBy m a b → n ≤ m
  pub few : n ≤ 2
