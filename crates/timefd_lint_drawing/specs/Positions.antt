-- Where a byte of a text is in its file, and how a line is cut at a span.
use Rattle.std.specs.Prelude.{ℕ, ◌+◌, ◌-◌, ◌^◌, ◌&&◌, ◌==◌, Bool, true, false, min, [], ◌∷◌, take, drop, chars, length, nat_le, nat_lt, slice_index, if◌then◌else◌}
use Rattle.std.specs.List.{before_first, count_by, list_any}
use Rattle.unicode_width.specs.Width.{str_width}
use Rattle.timefd_lang_component.specs.Tree.{Text}
use Rattle.timefd_lint_diagnosis.specs.declared.diagnostic.Span.{Span}
use Rattle.timefd_lint_drawing.specs.declared.form.Format.{Format}
use Rattle.timefd_lint_drawing.specs.declared.position.Position.{Position}
use Rattle.timefd_lint_drawing.specs.Forms.{counts_chars}
use Rattle.timefd_lint_drawing.specs.Shown.{safe}

-- Whether a byte continues a character that an earlier one begins.
abbrev pub goes_on : ℕ → Bool
goes_on byte = nat_le 128 byte && nat_lt byte 192

-- A text cut at a byte index. Inside of a character it isn't cut, and all of it is the front.
abbrev pub front : ℕ → Text → Text
front at text = if goes_on (slice_index text at) then text else take at text

abbrev pub after : ℕ → Text → Text
after at text = if goes_on (slice_index text at) then [] else drop at text

abbrev pub is_newline : ℕ → Bool
is_newline byte = byte == 10

abbrev pub newlines : Text → ℕ
newlines text = count_by is_newline text

-- What follows the last newline, and what comes before the first one: the whole text if it has none.
abbrev pub last_line : Text → Text
last_line [] = []
last_line (b ∷ text) = if list_any is_newline (b ∷ text) then last_line text else b ∷ text

abbrev pub first_line : Text → Text
first_line text = before_first is_newline text

-- The number of the line after a text that begins in line `first`: one more for each newline. A number that
-- is too large becomes the largest.
abbrev pub line_after : ℕ → Text → ℕ
line_after first text = min (first + newlines text) (2 ^ 64 - 1)

-- The number of the line that an index of a text is in, if the text begins in line `first`.
abbrev pub line_number : ℕ → Text → ℕ → ℕ
line_number first text at = line_after first (front at text)

-- What comes before an index in its line.
abbrev pub before : ℕ → Text → Text
before at text = last_line (front at text)

-- The column of an index: one more than the columns that the text before it in its line takes in a terminal.
abbrev pub column : Text → ℕ → ℕ
column text at = str_width false (chars (safe (before at text))) + 1

-- The column of an index, if it counts the characters before it.
abbrev pub char_column : Text → ℕ → ℕ
char_column text at = min (length (chars (before at text)) + 1) (2 ^ 64 - 1)

-- The column that a form reports.
abbrev pub column_by : Bool → Text → ℕ → ℕ
column_by true text at = char_column text at
column_by false text at = column text at

abbrev pub reported_column : Format → Text → ℕ → ℕ
reported_column format text at = column_by (counts_chars format) text at

-- The position of an index, as the form reports it, if the text begins in line `first`.
abbrev pub reported_position : Format → ℕ → Text → ℕ → Position
reported_position format first text at = record {
  line = line_number first text at;
  column = reported_column format text at;
}

-- A span, as far as it is in the line that it begins in, and what follows it in that line.
abbrev pub spanned : Span → Text → Text
spanned span text = front (span.end - span.start) (first_line (after span.start text))

abbrev pub after_span : Span → Text → Text
after_span span text = after (span.end - span.start) (first_line (after span.start text))
