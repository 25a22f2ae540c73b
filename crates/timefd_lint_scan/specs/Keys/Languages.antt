-- In which language a value is.
use Rattle.std.specs.Prelude.{ℕ, List, Option, None, Some}
use Rattle.std.specs.Option.{option_or}
use Rattle.timefd_lint_scan.specs.Bytes.{Text}
use Rattle.timefd_lint_scan.specs.Lines.{line_start}
use Rattle.timefd_lint_scan.specs.declared.dialect.FormatLanguage.{FormatLanguage}
use Rattle.timefd_lint_scan.specs.declared.keys.format.FileFormat.{FileFormat}
use Rattle.timefd_lint_scan.specs.declared.keys.key.DescriptionKey.{DescriptionKey}
use Rattle.timefd_lint_scan.specs.Keys.Comments.{reported_after, reported_in_front}
use Rattle.timefd_lint_scan.specs.Keys.Keys.{dialect_of}
use Rattle.timefd_lint_scan.specs.Keys.Names.{Name}
use Rattle.timefd_lint_scan.specs.Keys.Strings.{Reading, string_at}

abbrev pub reported_of : FileFormat → Text → Option Reading → Option FormatLanguage
reported_of format source None = None
reported_of format source (Some r) = reported_after format source r.closing

-- the language that a comment names after the string at a position, or else `other`
abbrev pub language_at : FileFormat → Text → ℕ → Option FormatLanguage → Option FormatLanguage
language_at format source start other = option_or (reported_of format source (string_at format source start)) other

-- the language that a comment alone in the line before a key names, or else the key's own
abbrev pub language_of : FileFormat → Text → List DescriptionKey → ℕ → Name → Option FormatLanguage
language_of format source keys at name =
    option_or (reported_in_front format source (line_start source at)) (dialect_of keys name.text)
