-- Parts of a string: plain bytes, and escapes.
use Rattle.std.specs.Prelude.{ℕ, zero, suc, ◌+◌, ◌-◌, ◌*◌, Bool, true, false, not, ◌&&◌, ◌||◌, ◌==◌, nat_lt, if◌then◌else◌, [], ◌∷◌, Option, Some, None}
use Rattle.timefd_lint_scan.specs.Bytes.{Text, quote, apostrophe, slash, backslash, is_between, is_blank}
use Rattle.timefd_lint_scan.specs.Escapes.{Part, char_part, character, hex_digit, next_value}
use Rattle.timefd_lint_scan.specs.declared.keys.number.ReadNumber as code
use Rattle.timefd_lint_scan.specs.declared.keys.style.StringStyle.{StringStyle}
use Rattle.timefd_lint_scan.specs.declared.keys.style.StringStyle.TheVariants.{Json, Basic, Literal, Double, Single, Plain}
use Rattle.timefd_lint_scan.specs.Keys.Styles.{begins_space}

-- a number, and what follows it
pub record Number : Type 0 where
  pub value : ℕ
  pub rest : Text

abbrev pub numbered : code.ReadNumber → Number
numbered n = record { value = n.value; rest = n.rest.now }

abbrev pub numbered_any : Option code.ReadNumber → Option Number
numbered_any None = None
numbered_any (Some n) = Some (numbered n)

abbrev pub with_rest : Option ℕ → Text → Option Number
with_rest None rest = None
with_rest (Some value) rest = Some (record { value = value; rest = rest })

-- The number with this many more hexadecimal digits, up to the greatest code point.
abbrev pub number : ℕ → Option ℕ → Text → Option Number
number zero value text = with_rest value text
number (suc count) value [] = None
number (suc count) value (b ∷ bytes) = number count (next_value value (hex_digit b)) bytes

-- the first and the second surrogate half of a character in JSON
abbrev pub is_first_half : ℕ → Bool
is_first_half value = is_between 55296 56319 value

abbrev pub is_second_half : ℕ → Bool
is_second_half value = is_between 56320 57343 value

abbrev pub joined : ℕ → ℕ → ℕ
joined first second = 65536 + (first - 55296) * 1024 + (second - 56320)

abbrev pub pair : ℕ → Option Number → Option Part
pair first None = None
pair first (Some n) =
    if is_second_half n.value then character n.rest (Some (joined first n.value)) else None

abbrev pub after_letter : Text → Option Number
after_letter [] = None
after_letter (b ∷ bytes) = if b == 117 then number 4 (Some 0) bytes else None

-- `\u` and four digits
abbrev pub second_half : Text → Option Number
second_half [] = None
second_half (b ∷ bytes) = if b == backslash then after_letter bytes else None

abbrev pub joins_halves : StringStyle → Bool
joins_halves Json = true
joins_halves Basic = false
joins_halves Literal = false
joins_halves Double = false
joins_halves Single = false
joins_halves Plain = false

abbrev pub scalar_part : StringStyle → Option Number → Option Part
scalar_part style None = None
scalar_part style (Some n) =
    if joins_halves style && is_first_half n.value then pair n.value (second_half n.rest)
    else character n.rest (Some n.value)

-- `\"`, `\\`, `\b`, `\f`, `\n`, `\r`, `\t`
abbrev pub common_letter : ℕ → Option ℕ
common_letter b =
    if b == quote then Some quote
    else if b == backslash then Some backslash
    else if b == 98 then Some 8
    else if b == 102 then Some 12
    else if b == 110 then Some 10
    else if b == 114 then Some 13
    else if b == 116 then Some 9
    else None

-- and `\/`
abbrev pub json_letter : ℕ → Option ℕ
json_letter b = if b == slash then Some slash else common_letter b

-- or `\e`
abbrev pub toml_letter : ℕ → Option ℕ
toml_letter b = if b == 101 then Some 27 else common_letter b

-- `\N`, `\_`, `\L`, `\P`
abbrev pub wide_letter : ℕ → Option ℕ
wide_letter b =
    if b == 78 then Some 133
    else if b == 95 then Some 160
    else if b == 76 then Some 8232
    else if b == 80 then Some 8233
    else None

-- `\0`, `\a`, `\v`, `\e`, `\/`, and a space or a tab after a backslash
abbrev pub yaml_letter : ℕ → Option ℕ
yaml_letter b =
    if b == 48 then Some 0
    else if b == 97 then Some 7
    else if b == 118 then Some 11
    else if b == 101 then Some 27
    else if b == slash then Some slash
    else if is_blank b then Some b
    else common_letter b

abbrev pub or_wide : Option ℕ → ℕ → Option ℕ
or_wide (Some c) b = Some c
or_wide None b = wide_letter b

-- the character that a letter after a backslash denotes
abbrev pub letter : StringStyle → ℕ → Option ℕ
letter Json b = json_letter b
letter Basic b = toml_letter b
letter Literal b = None
letter Double b = or_wide (yaml_letter b) b
letter Single b = None
letter Plain b = None

-- how many digits follow `\x`, `\u`, `\U`; 0 for other letters
abbrev pub wide_digit_count : ℕ → ℕ
wide_digit_count b = if b == 120 then 2 else if b == 117 then 4 else if b == 85 then 8 else 0

-- how many digits follow a letter; 0 if the format doesn't have this escape
abbrev pub digit_count : StringStyle → ℕ → ℕ
digit_count Json b = if b == 117 then 4 else 0
digit_count Basic b = wide_digit_count b
digit_count Literal b = 0
digit_count Double b = wide_digit_count b
digit_count Single b = 0
digit_count Plain b = 0

abbrev pub numeric : StringStyle → ℕ → Text → Option Part
numeric style count bytes =
    if count == 0 then None else scalar_part style (number count (Some 0) bytes)

abbrev pub escape_by : StringStyle → ℕ → Text → Option ℕ → Option Part
escape_by style b bytes (Some c) = char_part bytes (Some c)
escape_by style b bytes None = numeric style (digit_count style b) bytes

-- after a backslash
abbrev pub escape : StringStyle → Text → Option Part
escape style [] = None
escape style (b ∷ bytes) = escape_by style b bytes (letter style b)

-- a plain byte, which denotes itself
abbrev pub itself : ℕ → Text → Part
itself b bytes = record { stands = b ∷ []; rest = bytes }

-- the control character after the letters of ASCII
abbrev pub delete : ℕ
delete = 126 + 1

-- control characters that have to be escaped: in JSON all, elsewhere all but the tab
abbrev pub is_refused : StringStyle → ℕ → Bool
is_refused Json b = nat_lt b 32
is_refused Basic b = (nat_lt b 32 && not (b == 9)) || (b == delete)
is_refused Literal b = (nat_lt b 32 && not (b == 9)) || (b == delete)
is_refused Double b = nat_lt b 32 && not (b == 9)
is_refused Single b = nat_lt b 32 && not (b == 9)
is_refused Plain b = nat_lt b 32 && not (b == 9)

-- the second of two single quotes
abbrev pub second_apostrophe : Text → Option Part
second_apostrophe [] = None
second_apostrophe (b ∷ bytes) = if b == apostrophe then Some (itself b bytes) else None

-- a colon before a space makes a key of what precedes it; two blanks in a row aren't read
abbrev pub breaks_plain : ℕ → Text → Bool
breaks_plain b bytes = ((b == 58) || is_blank b) && begins_space bytes

abbrev pub escaped_or : StringStyle → ℕ → Text → Option Part
escaped_or style b bytes = if b == backslash then escape style bytes else Some (itself b bytes)

abbrev pub part_by : StringStyle → ℕ → Text → Option Part
part_by Json b bytes = escaped_or Json b bytes
part_by Basic b bytes = escaped_or Basic b bytes
part_by Literal b bytes = Some (itself b bytes)
part_by Double b bytes = escaped_or Double b bytes
part_by Single b bytes = if b == apostrophe then second_apostrophe bytes else Some (itself b bytes)
part_by Plain b bytes = if breaks_plain b bytes then None else Some (itself b bytes)

-- the part of a string that begins with this byte; none if the format doesn't allow it
abbrev pub part_of : StringStyle → ℕ → Text → Option Part
part_of style b bytes = if is_refused style b then None else part_by style b bytes
