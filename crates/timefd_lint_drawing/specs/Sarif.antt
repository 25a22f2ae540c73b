-- SARIF results.
use Rattle.std.specs.Prelude.{ℕ, ◌+◌, ◌-◌, ◌/◌, ◌%◌, Bool, true, false, ◌||◌, ◌==◌, [], ◌∷◌, ◌++◌, Option, None, Some, codes, drop, flat_map, nat_eq, nat_lt, if◌then◌else◌}
use Rattle.std.specs.List.{starts_with}
use Rattle.timefd_lang_component.specs.Tree.{Text}
use Rattle.timefd_lint_drawing.specs.declared.position.Position.{Position}
use Rattle.timefd_lint_drawing.specs.Findings.{Located, Said, described, is_further}
use Rattle.timefd_lint_drawing.specs.Json.{text_field, number_field}
use Rattle.timefd_lint_drawing.specs.Severities.{word}
use Rattle.timefd_lint_drawing.specs.Shown.{is_between}

-- Letters, digits and these characters are written as they are in a path.
abbrev pub is_plain : ℕ → Bool
is_plain byte = is_between (65, 90) byte || is_between (97, 122) byte || is_between (48, 57) byte || (byte == 45)
    || (byte == 46) || (byte == 95) || (byte == 126) || (byte == 47)

abbrev pub hex_digit : ℕ → ℕ
hex_digit n = if nat_lt n 10 then 48 + n else 65 + (n - 10)

-- Any other byte is written as its hexadecimal number after a percent sign.
abbrev pub uri_byte : ℕ → Text
uri_byte byte = if is_plain byte then byte ∷ [] else 37 ∷ hex_digit (byte / 16) ∷ hex_digit (byte % 16) ∷ []

abbrev pub encoded : Text → Text
encoded path = flat_map uri_byte path

-- A path as a URI: an absolute one has the scheme `file`, and any other is relative to the folder that the
-- program runs in.
abbrev pub uri : Text → Text
uri path =
    if starts_with nat_eq path (codes "/") then codes "file://" ++ encoded path
    else if starts_with nat_eq path (codes "./") then encoded (drop 2 path)
    else encoded path

abbrev pub uri_field : Text → Text → Text
uri_field front path = front ++ uri path

-- The field that only a further fault has.
abbrev pub further_field : Bool → Text
further_field true = codes ",\"properties\":{\"further\":true}"
further_field false = []

-- A fix puts a word in place of the part at fault, which goes from one line and column up to before another.
abbrev pub fix : Text → ℕ → ℕ → ℕ → ℕ → Text → Text → Text
fix file line column end_line end_column help word =
    [] ++ text_field (codes ",\"fixes\":[{\"description\":{\"text\":") help
    ++ uri_field (codes "},\"artifactChanges\":[{\"artifactLocation\":{\"uri\":\"") file
    ++ codes "\"},\"replacements\":["
    ++ number_field (codes "{\"deletedRegion\":{\"startLine\":") line
    ++ number_field (codes ",\"startColumn\":") column ++ number_field (codes ",\"endLine\":") end_line
    ++ number_field (codes ",\"endColumn\":") end_column
    ++ text_field (codes "},\"insertedContent\":{\"text\":") word ++ codes "}}]}]}]"

abbrev pub fixes : Text → ℕ → ℕ → ℕ → ℕ → Text → Option Text → Text
fixes file line column end_line end_column help None = []
fixes file line column end_line end_column help (Some word) = fix file line column end_line end_column help word

-- The start of a result, up to the column in which the part at fault begins.
abbrev pub begun : Text → Text → ℕ → ℕ → Text → Text → Text
begun code file line column message level =
    [] ++ text_field (codes ",{\"ruleId\":") code ++ text_field (codes ",\"level\":") level
    ++ text_field (codes ",\"message\":{\"text\":") message
    ++ codes "},\"locations\":[{\"physicalLocation\":"
    ++ uri_field (codes "{\"artifactLocation\":{\"uri\":\"") file
    ++ number_field (codes "\"},\"region\":{\"startLine\":") line
    ++ number_field (codes ",\"startColumn\":") column

-- A result with the end of the part, and one without it.
abbrev pub result : Bool → Text → Text → ℕ → ℕ → ℕ → ℕ → Text → Text → Option Text → Text → Text
result further code file line column end_line end_column message help replacement level =
    begun code file line column message level ++ number_field (codes ",\"endLine\":") end_line
    ++ number_field (codes ",\"endColumn\":") end_column ++ codes "}}}]"
    ++ fixes file line column end_line end_column help replacement ++ further_field further ++ codes "}\n"

abbrev pub note_result : Text → Text → ℕ → ℕ → Text → Text → Text
note_result code file line column message level =
    begun code file line column message level ++ codes "}}}]}\n"

abbrev pub text_if_any : Option Text → Text
text_if_any None = []
text_if_any (Some text) = text

abbrev pub help_text : Said → Text
help_text s = text_if_any s.help

abbrev pub fixes_of : Located → Position → Said → Text
fixes_of l end s = fixes l.file l.start.line l.start.column end.line end.column (help_text s) s.replacement

-- a result, with the end of the part if the form shows it
abbrev pub part_result : Located → Position → Said → Text → Text
part_result l end s message =
    result (is_further s.kind) s.code l.file l.start.line l.start.column end.line end.column message (help_text s)
    s.replacement (word s.severity)

abbrev pub whole_result : Located → Said → Text → Text
whole_result l s message =
    note_result s.code l.file l.start.line l.start.column message (word s.severity)

abbrev pub sarif_in : Option Position → Located → Said → Text → Text
sarif_in None l s message = whole_result l s message
sarif_in (Some end) l s message = part_result l end s message

abbrev pub described_result : Located → Said → Text → Text
described_result l s message = sarif_in l.end l s message

abbrev pub sarif : Located → Said → Text
sarif l s = described_result l s (described s)
