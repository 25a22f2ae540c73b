-- Comments that name the language of strings: `# timefd: 3`, in JSON `// timefd: 3`.
use Rattle.std.specs.Prelude.{ℕ, ◌≡◌, ◌-◌, Bool, true, ◌||◌, nat_eq, [], ◌∷◌, Option, Some, None, codes, drop, take, if◌then◌else◌}
use Rattle.std.specs.List.{starts_with}
use Rattle.timefd_lint_scan.specs.After.{after_run}
use Rattle.timefd_lint_scan.specs.Bytes.{Text, is_aside, is_blank, is_line_end, is_word}
use Rattle.timefd_lint_scan.specs.declared.dialect.FormatLanguage.{FormatLanguage}
use Rattle.timefd_lint_scan.specs.Dialects.{dialect_named}
use Rattle.timefd_lint_scan.specs.Lines.{line_start}
use Rattle.timefd_lint_scan.specs.Marks.{after, in_front}
use Rattle.timefd_lint_scan.specs.declared.keys.comment.LinePosition.{LinePosition}
use Rattle.timefd_lint_scan.specs.declared.keys.format.FileFormat.{FileFormat}
use Rattle.timefd_lint_scan.specs.declared.keys.format.FileFormat.TheVariants.{Toml, Json, Yaml}
use Rattle.timefd_lint_scan.specs.Keys.Styles.{ends_line}

-- after what begins a comment
abbrev pub after_sign : FileFormat → Text → Option Text
after_sign Toml text = after text (codes "#")
after_sign Json text = after text (codes "//")
after_sign Yaml text = after text (codes "#")

abbrev pub ends_line_of_json : Text → Bool
ends_line_of_json [] = true
ends_line_of_json (b ∷ bytes) =
    is_line_end b || starts_with nat_eq (b ∷ bytes) (codes "//") || starts_with nat_eq (b ∷ bytes) (codes "/*")

-- the end of a line, or a comment
abbrev pub ends_comment : FileFormat → Text → Bool
ends_comment Toml text = ends_line text
ends_comment Json text = ends_line_of_json text
ends_comment Yaml text = ends_line text

-- the language that the first word of a text names, if only blanks or a comment follow it in its line
abbrev pub word_reported : FileFormat → Text → Option FormatLanguage
word_reported format text =
    if ends_comment format (after_run is_blank (after_run is_word text)) then
    dialect_named (in_front text (after_run is_word text))
    else None

abbrev pub mark_reported : FileFormat → Option Text → Option FormatLanguage
mark_reported format None = None
mark_reported format (Some text) = word_reported format (after_run is_blank text)

abbrev pub comment_reported : FileFormat → Option Text → Option FormatLanguage
comment_reported format None = None
comment_reported format (Some text) = mark_reported format (after (after_run is_blank text) (codes "timefd:"))

-- the language that a comment at the front of a text names
abbrev pub dialect_reported : FileFormat → Text → Option FormatLanguage
dialect_reported format text = comment_reported format (after_sign format text)

-- The language that a comment names after a string that is closed at `closing`. Blanks, quotes, commas, and
-- what closes lists and tables may be between them.
abbrev pub reported_after : FileFormat → Text → ℕ → Option FormatLanguage
reported_after format source closing = dialect_reported format (after_run is_aside (drop closing source))

-- the line before the one that begins at a position; empty if that is the first line
abbrev pub line_in_front : Text → ℕ → Text
line_in_front source start = drop (line_start source (start - 1)) (take (start - 1) source)

-- the language that a comment names that is alone in the line before the one that begins at `start`
abbrev pub reported_in_front : FileFormat → Text → ℕ → Option FormatLanguage
reported_in_front format source start = dialect_reported format (after_run is_blank (line_in_front source start))

-- the first line of a file, which has no line before it
abbrev pub first_line : LinePosition
first_line = record { start = 0; reported = None }

-- the line that a position is in, and the language that a comment before it names
pub record IsLineAt (format : FileFormat) (source : Text) (at : ℕ) (line : LinePosition) : Type 0 where
  pub start : line.start ≡ line_start source at
  pub reported : line.reported ≡ reported_in_front format source line.start
