-- Which word is the nearest to another.
use Rattle.std.specs.Prelude.{ℕ, ◌≡◌, ◌≤◌, ◌<◌, ◌+◌, ◌/◌, max, List, [], ◌∷◌, ◌++◌, length, Option, Some, None, All, chars, nat_eq, nat_lt, ◌⊎◌, if◌then◌else◌}
use denote.Ref.{Bor}
use Rattle.std.specs.List.{list_any}
use Rattle.timefd_parse.specs.Tree.{Text}
use Rattle.timefd_lint_diagnosis.specs.declared.nearest.Best.{Best}
use Rattle.timefd_lint_diagnosis.specs.Edits.{IsDistance, IsMadeBy}

-- How many edits away a word still counts as near, by its number of characters: a third of them, but
-- at least one; none for a word of fewer than two characters.
abbrev pub reach_of : ℕ → ℕ
reach_of count = if nat_lt count 2 then 0 else max (count / 3) 1

abbrev pub reach : Text → ℕ
reach word = reach_of (length (chars word))

-- No fewer edits turn one text into the other, by their characters.
abbrev pub IsAsFarAs : ℕ → Text → Text → Type 0
IsAsFarAs n word w = (m : ℕ) → IsMadeBy m (chars word) (chars w) → n ≤ m

-- how many of some characters aren't among the others
abbrev pub lack_of : List ℕ → ℕ → ℕ
lack_of others c = if list_any (nat_eq c) others then 0 else 1

abbrev pub lacking : List ℕ → List ℕ → ℕ
lacking others [] = 0
lacking others (c ∷ characters) = lack_of others c + lacking others characters

-- The word is the first of the nearest words, this many edits away, and is near.
pub record IsFirstNearest (words : List Text) (word found : Text) (n : ℕ) : Type 0 where
  pub front : List Text
  pub back : List Text
  pub split : words ≡ front ++ found ∷ back
  pub distance : IsDistance (chars word) (chars found) n
  pub near : n ≤ reach word
  pub farther : All (IsAsFarAs (n + 1) word) front
  pub as_far : All (IsAsFarAs n word) back

-- The word is the first of the nearest words, if one is near.
abbrev pub IsNearest : List Text → Text → Option Text → Type 0
IsNearest words word (Some found) = (n : ℕ) × IsFirstNearest words word found n
IsNearest words word None = All (IsAsFarAs (reach word + 1) word) words

-- The word is the nearest of these words so far.
abbrev pub IsSoFar : List Text → Text → ℕ → Option (Bor Text) → Type 0
IsSoFar words word n (Some found) = IsFirstNearest words word found.now n
IsSoFar words word n None = (n ≡ reach word + 1) × All (IsAsFarAs n word) words

-- One more word replaces the nearest if it is nearer.
abbrev pub IsBetter : Text → Best → Bor Text → Best → Type 0
IsBetter word best w next =
    (next.edits < best.edits) × (next.found ≡ Some w)
    × IsDistance (chars word) (chars w.now) next.edits

abbrev pub IsNext : Text → Best → Bor Text → Best → Type 0
IsNext word best w next =
    IsBetter word best w next ⊎ ((next ≡ best) × IsAsFarAs best.edits word w.now)
