-- The content of a frame.
use Rattle.std.specs.Prelude.{◌≡◌, ℕ, ◌<◌, ◌≤◌, List, Option, length}
use Rattle.std.specs.Io.KnownBytes.{Consumes, IsAtEnd}

-- The source gave these bytes: as many as were wanted, or all that it had left.
abbrev pub IsContent : Option (List ℕ) → Option (List ℕ) → ℕ → List ℕ → Type 0
IsContent old new wanted content =
    Consumes old new content × (length content ≤ wanted) × (length content < wanted → IsAtEnd new)

-- The source gave `count` bytes.
abbrev pub IsSkipped : Option (List ℕ) → Option (List ℕ) → ℕ → ℕ → Type 0
IsSkipped old new wanted count =
    (content : List ℕ) × (length content ≡ count) × IsContent old new wanted content
