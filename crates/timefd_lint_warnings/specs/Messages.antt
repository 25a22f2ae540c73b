-- What the linter reports about the warnings of a text.
use Rattle.std.specs.Prelude.{ℕ, ◌+◌, ◌-◌, ◌^◌, Bool, true, false, List, [], ◌++◌, Option, None, Some, chars, flat_map, length, min}
use Rattle.unicode_width.specs.Width.{str_width}
use Rattle.timefd_parse.specs.Tree.{Text}
use Rattle.timefd_lint_diagnosis.specs.declared.diagnostic.Span.{Span}
use Rattle.timefd_lint_drawing.specs.declared.form.Format.{Format}
use Rattle.timefd_lint_drawing.specs.declared.draw.Style.{Style}
use Rattle.timefd_lint_drawing.specs.declared.finding.FindingKind.TheVariants.{Labelled}
use Rattle.timefd_lint_drawing.specs.declared.position.Origin.{Origin}
use Rattle.timefd_lint_drawing.specs.declared.position.Position.{Position}
use Rattle.timefd_lint_drawing.specs.declared.severity.FindingSeverity.{FindingSeverity}
use Rattle.timefd_lint_drawing.specs.declared.severity.FindingSeverity.TheVariants.{Error, Note, Warning as SeverityWarning}
use Rattle.timefd_lint_drawing.specs.Drawing.{cut_at}
use Rattle.timefd_lint_drawing.specs.Findings.{Located, Said}
use Rattle.timefd_lint_drawing.specs.Forms.{drawn_at, shows_part_end}
use Rattle.timefd_lint_drawing.specs.Positions.{spanned}
use Rattle.timefd_lint_drawing.specs.Shown.{safe}
use Rattle.timefd_lint_warnings.specs.Hints.{help_on}
use Rattle.timefd_lang_warnings.specs.declared.levels.Level.{Level}
use Rattle.timefd_lang_warnings.specs.declared.levels.Level.TheVariants.{Allowed, Warned, Denied}
use Rattle.timefd_lang_warnings.specs.declared.levels.Levels.{Levels}
use Rattle.timefd_lang_warnings.specs.declared.warning.Warning.{Warning}
use Rattle.timefd_lang_warnings.specs.Codes.{all, name_of, sentence_of}
use Rattle.timefd_lang_warnings.specs.Levels.{level_of}

-- the severity of a warning with this level
abbrev pub severity : Level → FindingSeverity
severity Allowed = Note
severity Warned = SeverityWarning
severity Denied = Error

-- The column that follows a text which begins at this one: as many more as the text takes in a terminal. A number that is
-- too large becomes the largest.
abbrev pub column_after : ℕ → Text → ℕ
column_after column text = min (column + str_width false (chars (safe text))) (2 ^ 64 - 1)

-- The position of what follows the text in its first line, if the form shows it.
abbrev pub end_if : Bool → ℕ → ℕ → Text → Option Position
end_if false number column at = None
end_if true number column at = Some (record { line = number; column = column_after column at })

abbrev pub end_of : Format → ℕ → ℕ → Text → Option Position
end_of format number column at = end_if (shows_part_end format) number column at

-- A warning is about the whole text, which is the part `span` of `whole` and begins at this column of its line.
abbrev pub located : Format → Origin → Text → Span → ℕ → Located
located format origin whole span column = record {
  file = origin.file.now;
  start = record { line = origin.line; column = column };
  end = end_of format origin.line column (spanned span whole);
  bytes = None;
  line = Some (cut_at whole span);
}

abbrev pub said : Text → Level → Warning → Said
said text level w = record {
  severity = severity level;
  kind = Labelled;
  code = name_of w;
  message = sentence_of w;
  help = Some (help_on w text);
  replacement = None;
}

-- the message about a warning on a text, which is this part of the whole
abbrev pub message : Style → Origin → Text → Span → Text → ℕ → Level → Warning → Text
message style origin whole span text column level w =
    drawn_at style (located style.format origin whole span column) (said text level w)

-- the message about a warning; nothing if it is allowed
abbrev pub reported_at : Style → Origin → Text → Span → Text → ℕ → Level → Warning → Text
reported_at style origin whole span text column Allowed w = []
reported_at style origin whole span text column Warned w = message style origin whole span text column Warned w
reported_at style origin whole span text column Denied w = message style origin whole span text column Denied w

abbrev pub messages_on : Style → Origin → Text → Span → Text → ℕ → Levels → List Warning → Text
messages_on style origin whole span text column found ws =
    flat_map (λ w. reported_at style origin whole span text column (level_of found w) w) ws

-- A message about each warning on a text that isn't allowed, in the order of the codes: on a text that is a part of the
-- whole and begins at this column of its line, and on one that is the whole.
abbrev pub messages_at : Style → Origin → Text → Span → Text → ℕ → Levels → Text
messages_at style origin whole span text column found = messages_on style origin whole span text column found all

abbrev pub messages : Style → Origin → Text → Levels → Text
messages style origin text found =
    messages_at style origin text (record { start = 0; end = length text }) text 1 found
