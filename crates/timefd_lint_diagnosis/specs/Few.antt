-- A text is taken apart, a character at a time.
use Rattle.std.specs.Prelude.{ℕ, ◌≡◌, List, [], ◌∷◌, Option, Some, None, IsUtf8, chars}
use Rattle.timefd_lint_diagnosis.specs.declared.few.Parted.{Parted}

-- the characters of a text that is taken apart
abbrev pub characters : Parted → List ℕ
characters parts = parts.first ∷ chars parts.after.now

-- the first character and what follows it, if there is one
abbrev pub IsParted : List ℕ → Option Parted → Type 0
IsParted cs None = cs ≡ []
IsParted cs (Some parts) = (cs ≡ characters parts) × IsUtf8 parts.after.now

-- The first two characters are swapped, and all else is the same.
pub record IsSwap (a b : List ℕ) : Type 0 where
  pub c : ℕ
  pub d : ℕ
  pub after : List ℕ
  pub from : a ≡ c ∷ d ∷ after
  pub to : b ≡ d ∷ c ∷ after
