-- A message on a word in a comment.
use Rattle.std.specs.Prelude.{None, Some}
use Rattle.timefd_parse.specs.Tree.{Text}
use Rattle.timefd_lint_diagnosis.specs.declared.diagnostic.Span.{Span}
use Rattle.timefd_lint_drawing.specs.declared.form.Format.{Format}
use Rattle.timefd_lint_drawing.specs.declared.draw.Style.{Style}
use Rattle.timefd_lint_drawing.specs.declared.severity.FindingSeverity.TheVariants.{Error}
use Rattle.timefd_lint_drawing.specs.Drawing.{cut_at, note_said}
use Rattle.timefd_lint_drawing.specs.Findings.{Located}
use Rattle.timefd_lint_drawing.specs.Forms.{drawn_at}
use Rattle.timefd_lint_drawing.specs.Positions.{reported_position}
use Rattle.timefd_lint_sources.specs.declared.reported.SourceText.{SourceText}

-- The message on these bytes of a source is at the position of the first one, and has the line with carets under the word.
abbrev pub located : Format → SourceText → Span → Located
located format s span = record {
  file = s.file.now;
  start = reported_position format 1 s.text.now span.start;
  end = None;
  bytes = None;
  line = Some (cut_at s.text.now span);
}

abbrev pub message : Style → SourceText → Span → Text → Text → Text
message style s span code sentence = drawn_at style (located style.format s span) (note_said Error code sentence)
