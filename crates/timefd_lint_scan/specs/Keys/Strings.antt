-- What the strings of a format denote.
use Rattle.std.specs.Prelude.{ℕ, zero, suc, ◌-◌, if◌then◌else◌, List, [], ◌∷◌, ◌++◌, length, drop, Option, Some, None}
use Rattle.timefd_lint_scan.specs.Bytes.{Text}
use Rattle.timefd_lint_scan.specs.Escapes.{all_at}
use Rattle.timefd_lint_scan.specs.declared.keys.format.FileFormat.{FileFormat}
use Rattle.timefd_lint_scan.specs.declared.keys.reading.StringReading as code
use Rattle.timefd_lint_scan.specs.declared.keys.style.StringStyle.{StringStyle}
use Rattle.timefd_lint_scan.specs.Keys.Escapes.{part_of}
use Rattle.timefd_lint_scan.specs.Keys.Styles.{closes, is_closed_by_end, is_quoted, style_of}

-- Bytes, for each the position of what denotes it, and the position of what closes the string.
pub record Reading : Type 0 where
  pub text : Text
  pub positions : List ℕ
  pub closing : ℕ

abbrev pub seen : code.StringReading → Reading
seen r = record {
  text = r.unescaped.text.items;
  positions = r.unescaped.positions.items;
  closing = r.closing;
}

abbrev pub seen_any : Option code.StringReading → Option Reading
seen_any None = None
seen_any (Some r) = Some (seen r)

abbrev pub reported_as : Text → List ℕ → ℕ → Option Reading
reported_as text positions closing = Some (record { text = text; positions = positions; closing = closing })

-- the bytes with these before them
abbrev pub before : Text → List ℕ → Option Reading → Option Reading
before text positions None = None
before text positions (Some r) =
    Some (record { text = text ++ r.text; positions = positions ++ r.positions; closing = r.closing })

-- nothing is left of a string that is closed at this position
abbrev pub closed_at : ℕ → Reading
closed_at position = record { text = []; positions = []; closing = position }

abbrev pub at_end : StringStyle → ℕ → Option Reading
at_end style end = if is_closed_by_end style then Some (closed_at end) else None

-- The bytes that a string denotes, in at most this many parts, up to what closes it. The text ends at
-- `end`, from which the positions of the parts are counted back.
abbrev pub read : ℕ → StringStyle → ℕ → Text → Option Reading
read zero style end [] = at_end style end
read zero style end (b ∷ bytes) = None
read (suc steps) style end [] = at_end style end
read (suc steps) style end (b ∷ bytes) =
    if closes style b bytes then Some (closed_at (end - length (b ∷ bytes)))
    else elim (part_of style b bytes) [
      | None ↦ None
      | Some p ↦ before p.stands (all_at (end - length (b ∷ bytes)) p.stands) (read steps style end p.rest)
    ]

-- what follows the quote, if there is one
abbrev pub body : StringStyle → ℕ → Text → Text
body style b bytes = if is_quoted style then bytes else b ∷ bytes

abbrev pub read_all : StringStyle → ℕ → Text → Option Reading
read_all style end text = read (length text) style end text

abbrev pub read_by : ℕ → ℕ → Text → Option StringStyle → Option Reading
read_by end b bytes None = None
read_by end b bytes (Some style) = read_all style end (body style b bytes)

-- the string that a text begins with; the text ends at `end`
abbrev pub first_string : FileFormat → ℕ → Text → Option Reading
first_string format end [] = None
first_string format end (b ∷ bytes) = read_by end b bytes (style_of format b bytes)

-- the string that begins at a position of a source
abbrev pub string_at : FileFormat → Text → ℕ → Option Reading
string_at format source start = first_string format (length source) (drop start source)
