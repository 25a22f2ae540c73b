-- The note at a call that takes a description by name.
use Rattle.std.specs.Prelude.{ℕ, Bool, true, false, codes, Option, Some, None, []}
use Rattle.timefd_parse.specs.Tree.{Text}
use Rattle.timefd_lint_drawing.specs.declared.draw.Style.{Style}
use Rattle.timefd_lint_drawing.specs.declared.finding.FindingKind.TheVariants.{Aside}
use Rattle.timefd_lint_drawing.specs.declared.form.Format.{Format}
use Rattle.timefd_lint_drawing.specs.declared.severity.FindingSeverity.TheVariants.{Note}
use Rattle.timefd_lint_drawing.specs.Findings.{Located, Said}
use Rattle.timefd_lint_drawing.specs.Forms.{drawn_at, shows_asides}
use Rattle.timefd_lint_drawing.specs.Positions.{reported_position}
use Rattle.timefd_lint_scan.specs.declared.description.SourceDescription.{SourceDescription}
use Rattle.timefd_lint_sources.specs.declared.reported.SourceText.{SourceText}

abbrev pub said : Said
said = record {
  severity = Note;
  kind = Aside;
  code = codes "call";
  message = codes "this call takes the text by its name";
  help = None;
  replacement = None;
}

abbrev pub located : Format → SourceText → ℕ → Located
located format s at = record {
  file = s.file.now;
  start = reported_position format 1 s.text.now at;
  end = None;
  bytes = None;
  line = None;
}

abbrev pub shown_note : Style → SourceText → ℕ → Text
shown_note style s at = drawn_at style (located style.format s at) said

abbrev pub note_if : Bool → Style → SourceText → ℕ → Text
note_if false style s at = []
note_if true style s at = shown_note style s at

-- There is a note if the form shows what is said aside.
abbrev pub note_at : Style → SourceText → ℕ → Text
note_at style s at = note_if (shows_asides style.format) style s at

abbrev pub note_for : Style → SourceText → Option ℕ → Text
note_for style s None = []
note_for style s (Some at) = note_at style s at

-- The note is at the name. There is none if the text is in the call itself.
abbrev pub call_note : Style → SourceText → SourceDescription → Text
call_note style s d = note_for style s d.call
