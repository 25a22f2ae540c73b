-- What is put in front of what is already written at the end of a buffer.
use Rattle.std.specs.Prelude.{ℕ, ◌≡◌, ◌+◌, ◌/◌, ◌%◌, ◌<◌, [], ◌∷◌, ◌++◌, length, take, drop, Option, Some, None}
use Rattle.timefd_lang_component.specs.Tree.{Text}

-- The text is put directly in front of `end`, and begins at the returned position. All other bytes are as
-- they were. If no position is returned, there was no room.
abbrev pub Puts : Text → Text → ℕ → Text → Option ℕ → Type 0
Puts text old end new (Some at) =
    (at + length text ≡ end) × (new ≡ take at old ++ (text ++ drop end old))
Puts text old end new None = end < length text

-- The two digits of a number below 100.
abbrev pub pair : ℕ → Text
pair n = (48 + n / 10) ∷ (48 + n % 10) ∷ []
