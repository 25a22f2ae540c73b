-- Texts as JSON writes them.
use Rattle.std.specs.Prelude.{ℕ, ◌+◌, ◌-◌, ◌/◌, ◌%◌, Bool, true, false, ◌||◌, ◌==◌, [], ◌∷◌, ◌++◌, Option, None, Some, chars, codes, decimal, encode_utf8, flat_map, nat_lt, if◌then◌else◌}
use Rattle.std.specs.Char.Escape.{encode_utf16}
use Rattle.std.specs.Str.{IsUtf8, NonePass}
use Rattle.timefd_lang_component.specs.Tree.{Text}
use Rattle.timefd_lint_diagnosis.specs.declared.diagnostic.Span.{Span}
use Rattle.timefd_lint_drawing.specs.Findings.{Located, Said, is_further}
use Rattle.timefd_lint_drawing.specs.Severities.{word}
use Rattle.timefd_lint_drawing.specs.Shown.{is_hidden, is_printable}

abbrev pub hex_digit : ℕ → ℕ
hex_digit n = if nat_lt n 10 then 48 + n else 97 + (n - 10)

-- The escape of a UTF-16 code unit: `\u` and four hexadecimal digits.
abbrev pub unit : ℕ → Text
unit n =
    codes "\\u"
    ++ (hex_digit (n / 4096) ∷ hex_digit (n / 256 % 16) ∷ hex_digit (n / 16 % 16)
    ∷ hex_digit (n % 16) ∷ [])

-- The escapes of the one or two UTF-16 code units of a character.
abbrev pub units : ℕ → Text
units c = flat_map unit (encode_utf16 c)

-- A quote and a backslash are written after a backslash, and a hidden character as escapes of its UTF-16 code
-- units. All others are written as they are.
abbrev pub escaped : ℕ → Text
escaped c =
    if (c == 34) || (c == 92) then 92 ∷ c ∷ []
    else if is_hidden c then units c
    else encode_utf8 c

-- A byte that is written in quotes as it is.
abbrev pub is_plain : ℕ → Bool
is_plain b = if (b == 34) || (b == 92) then false else is_printable b

abbrev pub all_escaped : Text → Text
all_escaped text = flat_map escaped (chars text)

abbrev pub quoted : Text → Text
quoted text = codes "\"" ++ (all_escaped text ++ codes "\"")

abbrev pub text_field : Text → Text → Text
text_field front text = front ++ quoted text

abbrev pub number_field : Text → ℕ → Text
number_field front number = front ++ decimal number

-- A field that is left out if there is no text.
abbrev pub field_if_any : Text → Option Text → Text
field_if_any front None = []
field_if_any front (Some text) = text_field front text

-- The fields that only a finding in a part of a text has.
abbrev pub end_field : Option Span → Text
end_field None = []
end_field (Some span) = number_field (codes ",\"end\":") span.end

abbrev pub start_field : Option Span → Text
start_field None = []
start_field (Some span) = number_field (codes ",\"start\":") span.start

-- The field that only a further fault has.
abbrev pub further_field : Bool → Text
further_field true = codes ",\"further\":true"
further_field false = []

-- An object on a line.
abbrev pub object : Option Span → Bool → Text → Text → ℕ → ℕ → Text → Option Text → Option Text → Text → Text
object bytes further code file line column message help replacement severity =
    [] ++ text_field (codes "{\"code\":") code ++ number_field (codes ",\"column\":") column
    ++ end_field bytes ++ text_field (codes ",\"file\":") file ++ further_field further
    ++ field_if_any (codes ",\"help\":") help ++ number_field (codes ",\"line\":") line
    ++ text_field (codes ",\"message\":") message ++ field_if_any (codes ",\"replacement\":") replacement
    ++ text_field (codes ",\"severity\":") severity ++ start_field bytes ++ codes "}\n"

-- a finding as an object
abbrev pub json : Located → Said → Text
json l s =
    object l.bytes (is_further s.kind) s.code l.file l.start.line l.start.column s.message s.help s.replacement
    (word s.severity)

-- No character of a text in quotes is hidden.
abbrev pub NoneIsHiddenInJson : Type 0
NoneIsHiddenInJson = (text : Text) → IsUtf8 text → NonePass is_hidden (chars (quoted text))
