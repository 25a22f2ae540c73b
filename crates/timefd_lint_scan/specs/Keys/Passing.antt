-- What is skipped before the next name: comments, strings of several lines, single signs.
use Rattle.std.specs.Prelude.{ℕ, ◌-◌, Bool, true, false, not, ◌&&◌, ◌||◌, ◌==◌, nat_eq, if◌then◌else◌, [], ◌∷◌, codes, drop}
use Rattle.std.specs.List.{starts_with}
use Rattle.timefd_lint_scan.specs.After.{after_run}
use Rattle.timefd_lint_scan.specs.Bytes.{Text, backslash, class_test, is_blank, is_line_end}
use Rattle.timefd_lint_scan.specs.declared.class.ByteSet.TheVariants.{Line}
use Rattle.timefd_lint_scan.specs.declared.keys.format.FileFormat.{FileFormat}
use Rattle.timefd_lint_scan.specs.declared.keys.format.FileFormat.TheVariants.{Toml, Json, Yaml}

abbrev pub begins_with : Text → Text → Bool
begins_with text front = starts_with nat_eq text front

-- the text from the wanted bytes on; nothing if it doesn't have them
abbrev pub reaching : Text → Text → Text
reaching wanted [] = []
reaching wanted (b ∷ bytes) = if begins_with (b ∷ bytes) wanted then b ∷ bytes else reaching wanted bytes

-- What follows a string of several lines, given the text after its first three quotes. The next byte may be
-- escaped by the one before it.
abbrev pub after_lines : Text → Bool → Bool → Text → Text
after_lines quotes escapes escaped [] = []
after_lines quotes escapes escaped (b ∷ bytes) =
    if not escaped && begins_with (b ∷ bytes) quotes then drop 3 (b ∷ bytes)
    else after_lines quotes escapes (not escaped && escapes && (b == backslash)) bytes

-- the start of a text, a blank or the end of a line
abbrev pub is_space_first : Text → Bool
is_space_first [] = true
is_space_first (b ∷ bytes) = is_blank b || is_line_end b

abbrev pub is_after_space : Text → ℕ → Bool
is_after_space source at = if at == 0 then true else is_space_first (drop (at - 1) source)

abbrev pub begins_comment_in : FileFormat → Text → ℕ → Text → Bool
begins_comment_in Toml source at text = begins_with text (codes "#")
begins_comment_in Json source at text = begins_with text (codes "//") || begins_with text (codes "/*")
begins_comment_in Yaml source at text = begins_with text (codes "#") && is_after_space source at

-- whether a comment begins at a position
abbrev pub begins_comment_at : FileFormat → Text → ℕ → Bool
begins_comment_at format source at = begins_comment_in format source at (drop at source)

-- What follows the comment that a text begins with. One of `/*` ends after the next `*/`, each other one at
-- the end of its line.
abbrev pub after_comment : Text → Text
after_comment text =
    if begins_with text (codes "/*") then drop 2 (reaching (codes "*/") (drop 2 text))
    else after_run (class_test Line) text

-- what follows a text's first byte, or in TOML the string of several lines that it begins with
abbrev pub after_quotes : FileFormat → Text → Text
after_quotes Toml text =
    if begins_with text (codes "\"\"\"") then after_lines (codes "\"\"\"") true false (drop 3 text)
    else if begins_with text (codes "'''") then after_lines (codes "'''") false false (drop 3 text)
    else drop 1 text
after_quotes Json text = drop 1 text
after_quotes Yaml text = drop 1 text

-- what follows the bytes that are skipped at a position without a name
abbrev pub after_passed : FileFormat → Text → ℕ → Text
after_passed format source at =
    if begins_comment_at format source at then after_comment (drop at source)
    else after_quotes format (drop at source)
