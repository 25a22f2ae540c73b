-- A number at the start of a text.
use Rattle.std.specs.Prelude.{ℕ, ◌≡◌, ◌++◌, true, length}
use Rattle.std.specs.Str.{all_ascii_digits}
use Rattle.std.specs.Str.Parse.{digits_value}
use Rattle.timefd_parse.specs.Tree.{Text}

-- The text begins with this many digits, which are the number in decimal, and the rest follows.
abbrev pub IsNumberAhead : ℕ → Text → ℕ → Text → Type 0
IsNumberAhead width text number rest =
    (digits : Text) × (text ≡ digits ++ rest) × (length digits ≡ width)
    × (all_ascii_digits digits ≡ true) × (number ≡ digits_value 10 digits)
