-- Literals, and what a dialect quotes.
use Rattle.std.specs.Prelude.{ℕ, ◌+◌, ◌==◌, ◌&&◌, nat_le, nat_lt, Bool, if◌then◌else◌, [], ◌∷◌, Option, Some, None}
use Rattle.std.specs.List.{prefix_len}
use Rattle.timefd_lang_component.specs.Tree.{Text}
use Rattle.timefd_language.specs.Bytes.{left, right, backslash, is_special, ZeroOrMore}

-- Literals in version 3.

-- the literal, with a backslash in front of each `[`, `]` and backslash
abbrev pub escaped : Text → Text
escaped [] = []
escaped (b ∷ bytes) = if is_special b then backslash ∷ b ∷ escaped bytes else b ∷ escaped bytes

-- the byte continues a character
abbrev pub continues : ℕ → Bool
continues b = nat_le 128 b && nat_lt b 192

-- how many bytes the first character has
abbrev pub char_len : Text → ℕ
char_len [] = 0
char_len (b ∷ rest) = 1 + prefix_len continues rest

abbrev pub IsCharacter : Text → Type 0
IsCharacter [] = ⊥
IsCharacter (b ∷ bytes) = ZeroOrMore continues bytes

-- Between apostrophes, where two of them mean one.

abbrev pub apostrophe : ℕ
apostrophe = 39

abbrev pub with_byte : ℕ → Option (Text × Text) → Option (Text × Text)
with_byte b None = None
with_byte b (Some x) = Some (b ∷ x.0, x.1)

abbrev mutual
  -- what is between an opening apostrophe and the one that closes it, and the rest
  pub quotation : Text → Option (Text × Text)
  quotation [] = None
  quotation (b ∷ rest) =
      if b == apostrophe then after_apostrophe rest else with_byte b (quotation rest)

  pub after_apostrophe : Text → Option (Text × Text)
  after_apostrophe [] = Some ([], [])
  after_apostrophe (b ∷ rest) =
      if b == apostrophe then with_byte b (quotation rest) else Some ([], b ∷ rest)

-- two apostrophes with nothing between them mean one
abbrev pub or_apostrophe : Text → Text
or_apostrophe [] = apostrophe ∷ []
or_apostrophe (b ∷ bytes) = b ∷ bytes

-- Between brackets: up to the last `]` before the next `[`.

-- the index of that `]`, after `index` bytes of which `last` is the last such `]`
abbrev pub closing_from : ℕ → Option ℕ → Text → Option ℕ
closing_from index last [] = last
closing_from index last (b ∷ rest) =
    if b == left then last
    else closing_from (index + 1) (if b == right then Some index else last) rest

abbrev pub closing : Text → Option ℕ
closing rest = closing_from 0 None rest
