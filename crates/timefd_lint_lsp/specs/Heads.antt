-- The head of a frame.
use Rattle.std.specs.Prelude.{◌≡◌, ℕ, ◌<◌, ◌≤◌, Bool, true, false, List, [], ◌∷◌, Option, Some, None, codes, length, take, nat_eq}
use Rattle.std.specs.Io.KnownBytes.{Consumes, IsAtEnd}
use Rattle.std.specs.List.{ends_with}
use Rattle.timefd_lint_lsp.specs.declared.head.HeadEnd.{HeadEnd}
use Rattle.timefd_lint_lsp.specs.declared.head.HeadEnd.TheVariants.{Whole, NoByte, Cut, TooLong}

-- The source gave a byte, or was at its end.
abbrev pub IsNext : Option (List ℕ) → Option (List ℕ) → Option ℕ → Type 0
IsNext old new (Some byte) = Consumes old new (byte ∷ [])
IsNext old new None = Consumes old new [] × IsAtEnd new

-- whether bytes end with an empty line
abbrev pub is_ended : List ℕ → Bool
is_ended bytes = ends_with nat_eq bytes (codes "\r\n\r\n")

-- No shorter front of the bytes ends with an empty line.
abbrev pub IsFirst : List ℕ → Type 0
IsFirst bytes = (k : ℕ) → k < length bytes → is_ended (take k bytes) ≡ false

-- Neither do the bytes themselves.
abbrev pub IsOpen : List ℕ → Type 0
IsOpen bytes = (k : ℕ) → k ≤ length bytes → is_ended (take k bytes) ≡ false

-- how a head with these bytes ends, if no byte follows
abbrev pub end_of : List ℕ → HeadEnd
end_of [] = NoByte
end_of (byte ∷ bytes) = Cut

-- The bytes end like this, if these bytes are left in the source.
abbrev pub EndsSo : Option (List ℕ) → List ℕ → HeadEnd → Type 0
EndsSo new bytes Whole = IsFirst bytes × (is_ended bytes ≡ true)
EndsSo new bytes NoByte = IsAtEnd new × (bytes ≡ [])
EndsSo new bytes Cut = IsAtEnd new × IsOpen bytes × (0 < length bytes)
EndsSo new bytes TooLong = IsOpen bytes × (4096 ≤ length bytes)

-- The bytes were read, and end like this. There are at most 4096.
abbrev pub IsHead : Option (List ℕ) → Option (List ℕ) → List ℕ → HeadEnd → Type 0
IsHead old new bytes end = Consumes old new bytes × EndsSo new bytes end × (length bytes ≤ 4096)
