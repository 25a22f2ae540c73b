-- What the linter reports about a description, by what is wrong with it.
use Rattle.std.specs.Prelude.{ℕ, ◌≡◌, List, [], ◌∷◌, ◌++◌, codes, flat_map, length, map}
use Rattle.timefd_parse.specs.Tree.{Text}
use Rattle.timefd_lint_diagnosis.specs.declared.diagnostic.Diagnostic.{Diagnostic}
use Rattle.timefd_lint_diagnosis.specs.declared.diagnostic.Span.{Span}
use Rattle.timefd_lint_drawing.specs.declared.draw.Style.{Style}
use Rattle.timefd_lint_drawing.specs.declared.position.Origin.{Origin}
use Rattle.timefd_lint_drawing.specs.Drawing.{drawn_all, note}
use Rattle.timefd_lint_drawing.specs.Positions.{reported_column, line_number}
use Rattle.timefd_lint_explain.specs.Lines.{IsExplainedIf}
use Rattle.timefd_language.specs.declared.description_version.Language.{Language}
use Rattle.timefd_lint_scan.specs.declared.description.SourceDescription.{SourceDescription}
use Rattle.timefd_lint_scan.specs.Found.{index_in_source}
use Rattle.timefd_lang_warnings.specs.declared.levels.Levels.{Levels}
use Rattle.timefd_lint_warnings.specs.Messages.{messages_at}
use Rattle.timefd_lint_sources.specs.declared.reported.ItemEnd.{ItemEnd}
use Rattle.timefd_lint_sources.specs.declared.reported.ItemEnd.TheVariants as ends
use Rattle.timefd_lint_sources.specs.declared.judgement.TextJudgement.{TextJudgement}
use Rattle.timefd_lint_sources.specs.declared.judgement.TextJudgement.TheVariants.{Accepted, Faulty, Right, Refused}
use Rattle.timefd_lint_sources.specs.declared.reported.SourceText.{SourceText}
use Rattle.timefd_lint_sources.specs.declared.reported.Reporting.{Reporting}
use Rattle.timefd_lint_sources.specs.Calls.{call_note}
use Rattle.timefd_lint_sources.specs.Judged.{text_of}
use Rattle.timefd_lint_sources.specs.Others.{refusal_in, trap_in}
use Rattle.timefd_lint_sources.specs.Judgements.{levels_of}

-- Where a source begins, and the line where the literal of a description begins.
abbrev pub whole_origin : SourceText → Origin
whole_origin s = record { file = s.file; line = 1 }

abbrev pub origin_of : SourceText → SourceDescription → Origin
origin_of s d = record { file = s.file; line = line_number 1 s.text.now d.piece.start }

-- the column of the literal, as the output format counts it
abbrev pub column_of : Style → SourceText → SourceDescription → ℕ
column_of style s d = reported_column style.format s.text.now d.piece.start

-- A diagnostic of a description, with its span in the source.
abbrev pub placed_in : SourceDescription → Diagnostic → Diagnostic
placed_in d g = record {
  fault = g.fault;
  code = g.code;
  span = record { start = index_in_source d g.span.start; end = index_in_source d g.span.end };
  help = g.help;
  named = g.named;
}

-- the bytes of a description's literal
abbrev pub literal_of : SourceDescription → Span
literal_of d = record { start = d.piece.start; end = d.piece.end }

-- The message on an accepted text is its tree, byte for byte, if that is asked for, and then each of these warnings, in the
-- order of their codes. The text is this part of the whole, and begins at this column of its line.
abbrev pub IsTreeWithWarnings : Reporting → Origin → Text → Span → Text → ℕ → Language → Levels → Text → Type 0
IsTreeWithWarnings reporting origin whole span text column language found message = (tree : Text)
    × IsExplainedIf reporting.explains language origin.file.now origin.line text tree
    × (message ≡ tree ++ messages_at reporting.style origin whole span text column found)

-- The warnings of a description are at its literal.
abbrev pub IsTreeAndWarnings : Language → Reporting → SourceText → SourceDescription → Levels → Text → Type 0
IsTreeAndWarnings language reporting s d found message =
    IsTreeWithWarnings reporting (origin_of s d) s.text.now (literal_of d) (text_of d) (column_of reporting.style s d)
    language found message

-- The report on a refused description is the drawing of its first fault, the drawings of the further ones,
-- each at its position in the source, and a note at a call that takes it by name. Without faults it is empty.
abbrev pub drawing_of : Style → SourceText → SourceDescription → List Diagnostic → Text
drawing_of style s d [] = []
drawing_of style s d (g ∷ further) =
    drawn_all style (whole_origin s) s.text.now g further ++ call_note style s d

-- the messages on what is wrong with a description
abbrev pub IsDrawn : Reporting → SourceText → SourceDescription → TextJudgement → Text → Type 0
IsDrawn reporting s d (Accepted language found) message =
    IsTreeAndWarnings language reporting s d (levels_of found) message
IsDrawn reporting s d (Faulty faults) message =
    message ≡ drawing_of reporting.style s d (map (placed_in d) faults.items)
IsDrawn reporting s d (Right traps) message = message ≡ flat_map (trap_in reporting.style s d) traps.items
IsDrawn reporting s d (Refused part) message = message ≡ refusal_in reporting.style s d part.reason part.index

-- The outcome of a description, if no comment is about it.
abbrev pub end_of : TextJudgement → ItemEnd
end_of (Accepted language found) = ends.Accepted (levels_of found)
end_of (Faulty faults) = ends.Refused
end_of (Right traps) = ends.Converted (length traps.items)
end_of (Refused part) = ends.Refused

-- The report on a description that isn't UTF-8 is a note on the line of its literal.
abbrev pub no_text_note : Style → Origin → Text
no_text_note style origin = note style origin (codes "not-text") (codes "the bytes aren't UTF-8")

abbrev pub note_of : Style → SourceText → SourceDescription → Text
note_of style s d = no_text_note style (origin_of s d)
