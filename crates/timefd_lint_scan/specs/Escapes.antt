-- What the body of a literal denotes. A carriage return and a line feed at the end of a line denote a
-- line feed.
use Rattle.std.specs.Prelude.{ℕ, zero, suc, ◌+◌, ◌-◌, ◌*◌, Bool, true, false, not, ◌&&◌, ◌||◌, ◌==◌, nat_le, nat_lt, if◌then◌else◌, List, [], ◌∷◌, ◌++◌, length}
use Rattle.std.specs.Prelude.{map, Option, Some, None}
use Rattle.std.specs.Char.{encode_utf8}
use lib.Utf8.{scalar}
use Rattle.timefd_lint_scan.specs.declared.token.Encoding.{Encoding}
use Rattle.timefd_lint_scan.specs.declared.token.Encoding.TheVariants.{Str, Bytes, C}
use Rattle.timefd_lint_scan.specs.declared.token.LiteralKind.{LiteralKind}
use Rattle.timefd_lint_scan.specs.declared.token.LiteralKind.TheVariants.{Escaped, Raw}
use Rattle.timefd_lint_scan.specs.declared.part.Stands.{Stands}
use Rattle.timefd_lint_scan.specs.declared.part.Stands.TheVariants.{Nothing, Byte, Char}
use Rattle.timefd_lint_scan.specs.declared.part.StringPart as code
use Rattle.timefd_lint_scan.specs.declared.unescape.Unescaped as whole
use Rattle.timefd_lint_scan.specs.Bytes.{Text, quote, apostrophe, backslash, line_feed, carriage_return, is_between, is_skipped}
use Rattle.timefd_lint_scan.specs.After.{after_run}

-- what a part of a body denotes, and what follows it
pub record Part : Type 0 where
  pub stands : Text
  pub rest : Text

abbrev pub stands_for : Stands → Text
stands_for Nothing = []
stands_for (Byte b) = b ∷ []
stands_for (Char c) = encode_utf8 c

abbrev pub parted : code.StringPart → Part
parted part = record { stands = stands_for part.stands; rest = part.rest.now }

abbrev pub parted_any : Option code.StringPart → Option Part
parted_any None = None
parted_any (Some part) = Some (parted part)

abbrev pub hex_digit : ℕ → Option ℕ
hex_digit b =
    if is_between 48 57 b then Some (b - 48)
    else if is_between 97 102 b then Some (b - 87)
    else if is_between 65 70 b then Some (b - 55)
    else None

-- `\n`, `\r`, `\t`, `\\`, `\0`, `\'`, `\"`
abbrev pub letter : ℕ → Option ℕ
letter b =
    if b == 110 then Some 10
    else if b == 114 then Some 13
    else if b == 116 then Some 9
    else if b == backslash then Some backslash
    else if b == 48 then Some 0
    else if b == apostrophe then Some apostrophe
    else if b == quote then Some quote
    else None

-- In a string of text `\x` can only denote ASCII.
abbrev pub is_allowed : Encoding → ℕ → Bool
is_allowed Str value = nat_lt value 128
is_allowed Bytes value = true
is_allowed C value = true

abbrev pub byte_value : Encoding → ℕ → Text → Option Part
byte_value e value rest =
    if is_allowed e value then Some (record { stands = value ∷ []; rest = rest }) else None

abbrev pub low_by : Encoding → ℕ → Text → Option ℕ → Option Part
low_by e high rest None = None
low_by e high rest (Some low) = byte_value e (high * 16 + low) rest

-- after the first digit of `\x`
abbrev pub low_digit : Encoding → ℕ → Text → Option Part
low_digit e high [] = None
low_digit e high (b ∷ bytes) = low_by e high bytes (hex_digit b)

abbrev pub high_by : Encoding → Text → Option ℕ → Option Part
high_by e rest None = None
high_by e rest (Some high) = low_digit e high rest

-- after `\x`
abbrev pub byte_of : Encoding → Text → Option Part
byte_of e [] = None
byte_of e (b ∷ bytes) = high_by e bytes (hex_digit b)

-- the character with this number, if there is one
abbrev pub scalar_value : ℕ → Option ℕ
scalar_value value = if scalar value then Some value else None

abbrev pub char_part : Text → Option ℕ → Option Part
char_part rest None = None
char_part rest (Some c) = Some (record { stands = encode_utf8 c; rest = rest })

abbrev pub character : Text → Option ℕ → Option Part
character rest None = None
character rest (Some value) = char_part rest (scalar_value value)

-- one more digit, up to the greatest code point
abbrev pub next_value : Option ℕ → Option ℕ → Option ℕ
next_value None digit = None
next_value (Some value) None = None
next_value (Some value) (Some digit) =
    if nat_le (value * 16 + digit) 1114111 then Some (value * 16 + digit) else None

-- After the first digits of a number, up to the closing brace. The number is none if one of them
-- isn't a digit. Underscores may be between them.
abbrev pub digits : Option ℕ → Text → Option Part
digits number [] = None
digits number (b ∷ bytes) =
    if b == 125 then character bytes number
    else if b == 95 then digits number bytes
    else digits (next_value number (hex_digit b)) bytes

abbrev pub first_digit : Text → Option Part
first_digit [] = None
first_digit (b ∷ bytes) = digits (hex_digit b) bytes

-- after `\u`
abbrev pub scalar_of : Text → Option Part
scalar_of [] = None
scalar_of (b ∷ bytes) = if b == 123 then first_digit bytes else None

abbrev pub is_of_bytes : Encoding → Bool
is_of_bytes Str = false
is_of_bytes Bytes = true
is_of_bytes C = false

abbrev pub begins_line_feed : Text → Bool
begins_line_feed [] = false
begins_line_feed (b ∷ bytes) = b == line_feed

abbrev pub ends_line : ℕ → Text → Bool
ends_line b bytes = (b == line_feed) || ((b == carriage_return) && begins_line_feed bytes)

abbrev pub escape_by : Encoding → ℕ → Text → Option ℕ → Option Part
escape_by e b bytes (Some c) = Some (record { stands = c ∷ []; rest = bytes })
escape_by e b bytes None =
    if b == 120 then byte_of e bytes
    else if (b == 117) && not (is_of_bytes e) then scalar_of bytes
    else if ends_line b bytes then Some (record { stands = []; rest = after_run is_skipped bytes })
    else None

-- after a backslash
abbrev pub escape : Encoding → Text → Option Part
escape e [] = None
escape e (b ∷ bytes) = escape_by e b bytes (letter b)

-- a plain byte, which denotes itself
abbrev pub itself : ℕ → Text → Part
itself b bytes =
    if (b == carriage_return) && begins_line_feed bytes then record { stands = []; rest = bytes }
    else record { stands = b ∷ []; rest = bytes }

abbrev pub part_of : LiteralKind → ℕ → Text → Option Part
part_of (Escaped e) b bytes = if b == backslash then escape e bytes else Some (itself b bytes)
part_of (Raw e n) b bytes = Some (itself b bytes)

-- bytes, and the position of each in the source
pub record Placed : Type 0 where
  pub text : Text
  pub positions : List ℕ

abbrev pub placed : whole.Unescaped → Placed
placed u = record { text = u.text.items; positions = u.positions.items }

abbrev pub placed_any : Option whole.Unescaped → Option Placed
placed_any None = None
placed_any (Some u) = Some (placed u)

-- the bytes with these before them
abbrev pub before : Text → List ℕ → Option Placed → Option Placed
before text positions None = None
before text positions (Some p) = Some (record { text = text ++ p.text; positions = positions ++ p.positions })

-- the same position for each of these bytes
abbrev pub all_at : ℕ → Text → List ℕ
all_at position bytes = map (λ _. position) bytes

-- The bytes that a body denotes, in at most this many parts. The body ends at `end`, from which the
-- positions of its parts are counted back.
abbrev pub unescaped : ℕ → LiteralKind → ℕ → Text → Option Placed
unescaped zero kind end [] = Some (record { text = []; positions = [] })
unescaped zero kind end (b ∷ bytes) = None
unescaped (suc steps) kind end [] = Some (record { text = []; positions = [] })
unescaped (suc steps) kind end (b ∷ bytes) = elim (part_of kind b bytes) [
  | None ↦ None
  | Some p ↦ before p.stands (all_at (end - length (b ∷ bytes)) p.stands) (unescaped steps kind end p.rest)
]
