-- Strings that stand in place of values.
use Rattle.std.specs.Prelude.{ℕ, ◌≡◌, ◌⊎◌, ◌-◌, ◌==◌, ◌||◌, if◌then◌else◌, [], ◌∷◌, ◌++◌, drop, flat_map, length, Option, None, Some}
use Rattle.std.specs.declared.alloc.Global.{Global}
use Rattle.std.specs.declared.vec.Vec.{Vec}
use Rattle.timefd_lint_scan.specs.Bytes.{Text, apostrophe, backslash, quote}
use Rattle.timefd_lint_scan.specs.declared.keys.format.FileFormat.{FileFormat}
use Rattle.timefd_lint_scan.specs.declared.keys.format.FileFormat.TheVariants as formats
use Rattle.timefd_lint_scan.specs.declared.keys.reading.StringReading as code
use Rattle.timefd_lint_scan.specs.declared.keys.style.StringStyle.{StringStyle}
use Rattle.timefd_lint_scan.specs.declared.keys.style.StringStyle.TheVariants.{Json, Basic, Literal, Double, Single, Plain}
use Rattle.timefd_lint_scan.specs.Keys.Strings.{Reading, string_at}
use Rattle.timefd_lint_scan.specs.Keys.Strings as strings
use Rattle.timefd_lint_scan.specs.Keys.Styles.{style_of}

abbrev pub seen : code.StringReading → Reading
seen r = strings.seen r

abbrev pub style_by : FileFormat → Text → Option StringStyle
style_by format [] = None
style_by format (b ∷ bytes) = style_of format b bytes

-- how the string at a position is written
abbrev pub style_at : FileFormat → Text → ℕ → Option StringStyle
style_at format source start = style_by format (drop start source)

abbrev pub end_by : StringStyle → ℕ → ℕ
end_by Json end = end
end_by Basic end = end
end_by Literal end = end
end_by Double end = end
end_by Single end = end
end_by Plain end = end - 1

abbrev pub end_in : Option StringStyle → ℕ → ℕ
end_in None end = end
end_in (Some style) end = end_by style end

-- where a string ends: what follows a string without quotes doesn't belong to it
abbrev pub string_end : FileFormat → Text → ℕ → ℕ → ℕ
string_end format source start end = end_in (style_at format source start) end

-- the quotes around a string that is written like this; single ones in place of none
abbrev pub quote_of : StringStyle → ℕ
quote_of Json = quote
quote_of Basic = quote
quote_of Literal = apostrophe
quote_of Double = quote
quote_of Single = apostrophe
quote_of Plain = apostrophe

-- a backslash and a letter, for what can't stand between double quotes
abbrev pub escape_for : ℕ → Option (ℕ × ℕ)
escape_for b =
    if (b == quote) || (b == backslash) then Some (backslash, b)
    else if b == 10 then Some (backslash, 110)
    else if b == 13 then Some (backslash, 114)
    else if b == 9 then Some (backslash, 116)
    else None

abbrev pub doubled : ℕ → Option (ℕ × ℕ)
doubled b = if b == apostrophe then Some (b, b) else None

-- the two bytes that denote a byte which can't stand alone
abbrev pub pair_for : StringStyle → ℕ → Option (ℕ × ℕ)
pair_for Json b = escape_for b
pair_for Basic b = escape_for b
pair_for Literal b = None
pair_for Double b = escape_for b
pair_for Single b = doubled b
pair_for Plain b = doubled b

abbrev pub paired : Option (ℕ × ℕ) → ℕ → Text
paired None b = b ∷ []
paired (Some pair) b = pair.0 ∷ pair.1 ∷ []

abbrev pub spelled : StringStyle → ℕ → Text
spelled style b = paired (pair_for style b) b

-- a text between quotes
abbrev pub quoted : StringStyle → Text → Text
quoted style text = quote_of style ∷ (flat_map (spelled style) text ++ quote_of style ∷ [])

-- The string denotes the text, and is closed at the last of these bytes.
pub record IsWhole (r : Reading) (string wanted : Text) : Type 0 where
  pub is : r.text ≡ wanted
  pub at_last : r.closing ≡ length string - 1

-- These bytes are one string, which denotes the text.
abbrev pub Denotes : FileFormat → Text → Text → Type 0
Denotes format string wanted = (r : Reading) × (string_at format string 0 ≡ Some r) × IsWhole r string wanted

-- The string is written like this and denotes the text. There is none if that denotes another text, or isn't a string.
abbrev pub IsStringBy : FileFormat → StringStyle → Text → Option (Vec ℕ Global) → Type 0
IsStringBy format style text None = Denotes format (quoted style text) text → ⊥
IsStringBy format style text (Some s) = (s.items ≡ quoted style text) × Denotes format (quoted style text) text

-- how strings with escapes are written
abbrev pub escaping : FileFormat → StringStyle
escaping formats.Toml = Basic
escaping formats.Json = Json
escaping formats.Yaml = Double

-- The string is written like this, or with escapes if that can't be.
abbrev pub IsStringLike : FileFormat → StringStyle → Text → Option (Vec ℕ Global) → Type 0
IsStringLike format style text None =
    IsStringBy format style text None × IsStringBy format (escaping format) text None
IsStringLike format style text (Some s) = IsStringBy format style text (Some s)
    ⊎ (IsStringBy format style text None × IsStringBy format (escaping format) text (Some s))

abbrev pub IsStringIn : FileFormat → Option StringStyle → Text → Option (Vec ℕ Global) → Type 0
IsStringIn format None text found = found ≡ None
IsStringIn format (Some style) text found = IsStringLike format style text found

-- It is the string for a text in place of the string at a position.
abbrev pub IsStringFor : FileFormat → Text → ℕ → Text → Option (Vec ℕ Global) → Type 0
IsStringFor format source start text found = IsStringIn format (style_at format source start) text found
