-- How strings are written, and which bytes end them.
use Rattle.std.specs.Prelude.{ℕ, Bool, true, false, not, ◌&&◌, ◌||◌, ◌==◌, nat_le, if◌then◌else◌, [], ◌∷◌, Option, Some, None}
use Rattle.timefd_lint_scan.specs.After.{after_run}
use Rattle.timefd_lint_scan.specs.Bytes.{Text, quote, apostrophe, hash, is_blank, is_line_end}
use Rattle.timefd_lint_scan.specs.declared.keys.format.FileFormat.{FileFormat}
use Rattle.timefd_lint_scan.specs.declared.keys.format.FileFormat.TheVariants as formats
use Rattle.timefd_lint_scan.specs.declared.keys.style.StringStyle.{StringStyle}
use Rattle.timefd_lint_scan.specs.declared.keys.style.StringStyle.TheVariants.{Json, Basic, Literal, Double, Single, Plain}

-- a space, a control character, or nothing
abbrev pub begins_space : Text → Bool
begins_space [] = true
begins_space (b ∷ bytes) = nat_le b 32

-- whether two more bytes of this kind follow
abbrev pub begins_two : ℕ → Text → Bool
begins_two b [] = false
begins_two b (c ∷ []) = false
begins_two b (c ∷ d ∷ bytes) = (c == b) && (d == b)

-- Strings of several lines, which begin with three quotes, aren't among these.
abbrev pub toml_style : ℕ → Text → Option StringStyle
toml_style b bytes =
    if begins_two b bytes then None
    else if b == quote then Some Basic
    else if b == apostrophe then Some Literal
    else None

-- `,`, `[`, `]`, `{`, `}`
abbrev pub is_flow : ℕ → Bool
is_flow b = (b == 44) || (b == 91) || (b == 93) || (b == 123) || (b == 125)

-- `#`, `&`, `*`, `!`, `|`, `>`, `%`, `@` and the grave accent
abbrev pub is_other_indicator : ℕ → Bool
is_other_indicator b =
    (b == 35) || (b == 38) || (b == 42) || (b == 33) || (b == 124) || (b == 62) || (b == 37) || (b == 64)
    || (b == 96)

-- `-`, `?`, `:`: these begin a plain string if no space follows
abbrev pub is_mark : ℕ → Bool
is_mark b = (b == 45) || (b == 63) || (b == 58)

abbrev pub begins_plain : ℕ → Text → Bool
begins_plain b bytes =
    if nat_le b 32 then false
    else if is_flow b || is_other_indicator b then false
    else if is_mark b then not (begins_space bytes)
    else true

abbrev pub yaml_style : ℕ → Text → Option StringStyle
yaml_style b bytes =
    if b == quote then Some Double
    else if b == apostrophe then Some Single
    else if begins_plain b bytes then Some Plain
    else None

-- how a string that begins with this byte is written
abbrev pub style_of : FileFormat → ℕ → Text → Option StringStyle
style_of formats.Toml b bytes = toml_style b bytes
style_of formats.Json b bytes = if b == quote then Some Json else None
style_of formats.Yaml b bytes = yaml_style b bytes

-- the end of a line, or a comment
abbrev pub ends_line : Text → Bool
ends_line [] = true
ends_line (b ∷ bytes) = is_line_end b || (b == hash)

-- A plain string ends with its line, or before a comment. The blanks before that don't belong to it.
abbrev pub ends_plain : ℕ → Text → Bool
ends_plain b bytes = is_line_end b || (is_blank b && ends_line (after_run is_blank bytes))

abbrev pub begins_apostrophe : Text → Bool
begins_apostrophe [] = false
begins_apostrophe (b ∷ bytes) = b == apostrophe

-- whether this byte closes a string; in one with single quotes two of them denote one
abbrev pub closes : StringStyle → ℕ → Text → Bool
closes Json b bytes = b == quote
closes Basic b bytes = b == quote
closes Literal b bytes = b == apostrophe
closes Double b bytes = b == quote
closes Single b bytes = (b == apostrophe) && not (begins_apostrophe bytes)
closes Plain b bytes = ends_plain b bytes

-- whether the end of the text closes a string
abbrev pub is_closed_by_end : StringStyle → Bool
is_closed_by_end Json = false
is_closed_by_end Basic = false
is_closed_by_end Literal = false
is_closed_by_end Double = false
is_closed_by_end Single = false
is_closed_by_end Plain = true

-- whether a string begins with a quote
abbrev pub is_quoted : StringStyle → Bool
is_quoted Json = true
is_quoted Basic = true
is_quoted Literal = true
is_quoted Double = true
is_quoted Single = true
is_quoted Plain = false
