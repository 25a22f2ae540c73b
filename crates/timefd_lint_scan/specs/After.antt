-- What follows the piece that a text begins with; none if no such piece is closed.
use Rattle.std.specs.Prelude.{ℕ, ◌-◌, ◌+◌, Bool, ◌&&◌, ◌==◌, nat_le, if◌then◌else◌, [], ◌∷◌, length, drop, Option, Some, None}
use Rattle.timefd_lint_scan.specs.Bytes.{Text, quote, apostrophe, star, slash, backslash, is_continuation, class_test}
use Rattle.timefd_lint_scan.specs.declared.class.ByteSet.TheVariants.{Hash, Quoted}

-- what follows the longest front of bytes that pass the test
abbrev pub after_run : (ℕ → Bool) → Text → Text
after_run test [] = []
after_run test (b ∷ bytes) = if test b then after_run test bytes else b ∷ bytes

-- the number of `#` that a text begins with
abbrev pub hashes : Text → ℕ
hashes text = length text - length (after_run (class_test Hash) text)

-- After the opening quote of a string: the first quote closes it that isn't escaped. A backslash
-- escapes the byte after it.
abbrev mutual
  pub after_string : Text → Option Text
  after_string [] = None
  after_string (b ∷ bytes) =
      if b == backslash then after_escape bytes
      else if b == quote then Some bytes
      else after_string bytes

  pub after_escape : Text → Option Text
  after_escape [] = None
  after_escape (b ∷ bytes) = after_string bytes

-- After the opening quote of a raw string: the first quote that is followed by this many `#` closes
-- it.
abbrev pub after_raw : ℕ → Text → Option Text
after_raw n [] = None
after_raw n (b ∷ bytes) =
    if (b == quote) && nat_le n (hashes bytes) then Some (drop n bytes)
    else after_raw n bytes

-- After the `/*` of a comment in which `depth` others are open: each `/*` opens one more, and each
-- `*/` closes one. `before` is the byte before, or 0 if that belongs to a `/*` or `*/`.
abbrev pub after_comment : ℕ → ℕ → Text → Option Text
after_comment depth before [] = None
after_comment depth before (b ∷ bytes) =
    if (before == slash) && (b == star) then after_comment (depth + 1) 0 bytes
    else if (before == star) && (b == slash) then
    (if depth == 0 then Some bytes else after_comment (depth - 1) 0 bytes)
    else after_comment depth b bytes

-- after an apostrophe
abbrev pub after_apostrophe : Text → Option Text
after_apostrophe [] = None
after_apostrophe (b ∷ bytes) = if b == apostrophe then Some bytes else None

-- after the backslash of an escape in a character literal
abbrev pub after_quoted_escape : Text → Option Text
after_quoted_escape [] = None
after_quoted_escape (b ∷ bytes) = after_apostrophe (after_run (class_test Quoted) bytes)

-- After the opening apostrophe of a character literal, which has one character or one escape.
abbrev pub after_character : Text → Option Text
after_character [] = None
after_character (b ∷ bytes) =
    if b == backslash then after_quoted_escape bytes
    else if b == apostrophe then None
    else after_apostrophe (after_run is_continuation bytes)
