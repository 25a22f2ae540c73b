-- Which paths a pattern matches. A path is bytes, with a slash between the names.
use Rattle.std.specs.Prelude.{ℕ, ◌≡◌, ◌≢◌, ◌+◌, ◌≤◌, ◌⊎◌, Bool, true, false, not, ◌&&◌, ◌||◌, ◌==◌, nat_le, if◌then◌else◌, List, [], ◌∷◌, ◌++◌, length, drop, slice_index_or, IsTrue}
use Rattle.std.specs.List.{AllByRecursion}
use Rattle.timefd_lint_files.specs.declared.class.ByteRange.{ByteRange}
use Rattle.timefd_lint_files.specs.declared.class.ByteClass.{ByteClass}
use Rattle.timefd_lint_files.specs.declared.token.PatternToken.{PatternToken}
use Rattle.timefd_lint_files.specs.declared.token.PatternToken.TheVariants.{Byte, Any, OneOf, Star, Folders, Rest, Nothing}

abbrev pub Text : Type 0
Text = List ℕ

-- `/`
abbrev pub slash : ℕ
slash = 47

-- A range has its first byte, and those from it up to its last. A range that goes backwards has the first
-- alone.
abbrev pub is_within : ByteRange → ℕ → Bool
is_within range byte = (byte == range.first) || (nat_le range.first byte && nat_le byte range.last)

abbrev pub is_within_any : List ByteRange → ℕ → Bool
is_within_any [] byte = false
is_within_any (range ∷ ranges) byte = is_within range byte || is_within_any ranges byte

-- A class has the bytes of its ranges; a negated one has all others.
abbrev pub has : ByteClass → ℕ → Bool
has class byte =
    if class.is_negated then not (is_within_any class.ranges.items byte)
    else is_within_any class.ranges.items byte

-- The path is a prefix that the token matches, and a rest that the following tokens match.
abbrev pub MatchesFirst : PatternToken → (Text → Type 0) → Text → Type 0
MatchesFirst (Byte own) After path = (rest : Text) × (path ≡ own ∷ rest) × After rest
MatchesFirst Any After path =
    (byte : ℕ) × (rest : Text) × (path ≡ byte ∷ rest) × (byte ≢ slash) × After rest
MatchesFirst (OneOf class) After path =
    (byte : ℕ) × (rest : Text) × (path ≡ byte ∷ rest) × (byte ≢ slash) × IsTrue (has class byte)
    × After rest
MatchesFirst Star After path =
    (front : Text) × (rest : Text) × (path ≡ front ++ rest) × AllByRecursion (λ byte. byte ≢ slash) front
    × After rest
MatchesFirst Folders After path =
    After path ⊎ ((front : Text) × (rest : Text) × (path ≡ front ++ slash ∷ rest) × After rest)
MatchesFirst Rest After path =
    (front : Text) × (rest : Text) × (path ≡ front ++ rest) × After rest
MatchesFirst Nothing After path = ⊥

-- The tokens match the whole path, one after another.
abbrev pub Matches : List PatternToken → Text → Type 0
Matches [] path = path ≡ []
Matches (token ∷ tokens) path = MatchesFirst token (Matches tokens) path

-- whether the token also matches no byte at all
abbrev pub takes_none : PatternToken → Bool
takes_none (Byte own) = false
takes_none Any = false
takes_none (OneOf class) = false
takes_none Star = true
takes_none Folders = true
takes_none Rest = true
takes_none Nothing = false

-- Whether the token matches a prefix that begins with this byte: the tokens after it match all bytes after
-- `byte` (`fits`), or the token matches more of them (`goes_on`).
abbrev pub takes : PatternToken → ℕ → Bool → Bool → Bool
takes (Byte own) byte fits goes_on = (byte == own) && fits
takes Any byte fits goes_on = not (byte == slash) && fits
takes (OneOf class) byte fits goes_on = (not (byte == slash) && has class byte) && fits
takes Star byte fits goes_on = not (byte == slash) && (goes_on || fits)
takes Folders byte fits goes_on = goes_on || ((byte == slash) && fits)
takes Rest byte fits goes_on = goes_on || fits
takes Nothing byte fits goes_on = false

-- whether the token matches at least one byte, and the following tokens match the rest
abbrev pub takes_some : PatternToken → (Text → Bool) → Text → Bool
takes_some token after [] = false
takes_some token after (byte ∷ bytes) = takes token byte (after bytes) (takes_some token after bytes)

abbrev pub is_empty : Text → Bool
is_empty [] = true
is_empty (byte ∷ bytes) = false

-- whether the tokens match the whole path
abbrev pub matches : List PatternToken → Text → Bool
matches [] path = is_empty path
matches (token ∷ tokens) path =
    takes_some token (matches tokens) path || (takes_none token && matches tokens path)

-- For each position of a path, and for its end, whether the test holds of what follows it.
pub record IsRowOf (test : Text → Bool) (path : Text) (row : List Bool) : Type 0 where
  pub len : length row ≡ length path + 1
  pub each : (k : ℕ) → k ≤ length path → slice_index_or row k false ≡ test (drop k path)

abbrev pub IsRow : List PatternToken → Text → List Bool → Type 0
IsRow tokens path row = IsRowOf (matches tokens) path row

abbrev pub IsRowAfter : List PatternToken → Text → List Bool → Type 0
IsRowAfter tokens path row = IsRow (drop 1 tokens) path row
