-- Positions in a document, as editors count them.
use Rattle.std.specs.Prelude.{ℕ, ◌≡◌, ◌<◌, ◌≤◌, ◌+◌, ◌-◌, ◌^◌, min, zero, suc, Bool, true, false, not, ◌&&◌, ◌||◌, ◌==◌, nat_le, nat_lt, if◌then◌else◌, [], ◌∷◌, ◌++◌, length, take, slice_index}
use Rattle.timefd_parse.specs.Tree.{Text}
use Rattle.timefd_lint_lsp.specs.declared.editor.counter.DocumentCounter.{DocumentCounter}
use Rattle.timefd_lint_lsp.specs.declared.editor.position.DocumentPosition.{DocumentPosition}
use Rattle.timefd_lint_lsp.specs.declared.editor.position.DocumentRange.{DocumentRange}
use Rattle.timefd_lint_lsp.specs.declared.editor.walk.CountingWalk.{CountingWalk}

-- A line ends with a newline, a carriage return, or both.
abbrev pub is_line_end : ℕ → Bool
is_line_end b = (b == 10) || (b == 13)

-- whether a byte is the newline of `\r\n`, whose carriage return already ended the line
abbrev pub is_second : CountingWalk → ℕ → Bool
is_second w b = w.is_after_return && (b == 10)

-- whether a byte continues a character that an earlier byte begins
abbrev pub goes_on : ℕ → Bool
goes_on b = nat_le 128 b && nat_lt b 192

-- How many UTF-16 units the character has that a byte begins: two if it has four bytes in UTF-8, and 0 if the
-- byte continues one.
abbrev pub units : ℕ → ℕ
units b = if goes_on b then 0 else if nat_lt b 240 then 1 else 2

-- A number that is too large is replaced by the largest one.
abbrev pub capped : ℕ → ℕ
capped n = min n (2 ^ 64 - 1)

abbrev pub line_after : CountingWalk → ℕ → ℕ
line_after w b =
    if is_line_end b && not (is_second w b) then capped (w.position.line + 1)
    else w.position.line

abbrev pub character_after : CountingWalk → ℕ → ℕ
character_after w b =
    if is_line_end b then 0 else capped (w.position.character + units b)

-- the walk after one more byte
abbrev pub step : CountingWalk → ℕ → CountingWalk
step w b = record {
  position = record { line = line_after w b; character = character_after w b };
  is_after_return = b == 13;
}

-- the walk after all bytes of a text
abbrev pub walked : CountingWalk → Text → CountingWalk
walked w [] = w
walked w (b ∷ text) = walked (step w b) text

abbrev pub start : CountingWalk
start = record { position = record { line = 0; character = 0 }; is_after_return = false }

-- the start of the character that an index is inside of, or the index itself if it isn't inside of one
abbrev pub char_start : Text → ℕ → ℕ
char_start text zero = 0
char_start text (suc n) = if goes_on (slice_index text (suc n)) then char_start text n else suc n

-- The position of an index is where a walk through the text before it ends.
abbrev pub position_of : Text → ℕ → DocumentPosition
position_of text index = (walked start (take (char_start text index) text)).position

abbrev pub range_of : Text → ℕ → ℕ → DocumentRange
range_of text from to = record { start = position_of text from; end = position_of text to }

-- The document is counted up to an index of it.
pub record IsCounted (text : Text) (c : DocumentCounter) : Type 0 where
  pub within : c.at ≤ length text
  pub walk : c.walk ≡ walked start (take c.at text)

-- Whether a walk to a position stops before a byte: in the sought line, at its end, or at a character that
-- reaches beyond the position.
abbrev pub stops_at : CountingWalk → DocumentPosition → ℕ → Bool
stops_at w sought b =
    (w.position.line == sought.line)
    && (not (is_second w b)
    && (is_line_end b || (not (goes_on b) && nat_lt sought.character (character_after w b))))

-- how many bytes a walk to a position passes
abbrev pub passed : CountingWalk → DocumentPosition → Text → ℕ
passed w sought [] = 0
passed w sought (b ∷ text) = if stops_at w sought b then 0 else 1 + passed (step w b) sought text

abbrev pub index_of : Text → DocumentPosition → ℕ
index_of text sought = passed start sought text

-- whether a carriage return is a text's last byte
abbrev pub ends_with_return : Bool → Text → Bool
ends_with_return before [] = before
ends_with_return before (b ∷ text) = ends_with_return (b == 13) text

-- What follows an index neither continues a character nor completes `\r\n`.
abbrev pub begins : Bool → Text → Bool
begins after_return [] = true
begins after_return (b ∷ text) = not (goes_on b) && not (after_return && (b == 10))

-- Turning an index into a position and back gives the same index, if it is between two characters and not
-- inside of `\r\n`.
abbrev pub RoundTrip : Type 0
RoundTrip = (front back : Text) → length (front ++ back) < 2 ^ 63
    → begins (ends_with_return false front) back ≡ true
    → index_of (front ++ back) (position_of (front ++ back) (length front)) ≡ length front
