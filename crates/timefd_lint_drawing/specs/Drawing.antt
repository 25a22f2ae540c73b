-- A diagnostic as it is written in each form.
use Rattle.std.specs.Prelude.{ℕ, Bool, true, false, List, ◌++◌, Option, None, Some, flat_map}
use Rattle.timefd_lang_component.specs.Tree.{Text}
use Rattle.timefd_lang_fault.specs.Faults.{fault_of}
use Rattle.timefd_lang_fault.specs.Sentences.{error_sentence}
use Rattle.timefd_lang_fault.specs.Codes.{code_of, name_of}
use Rattle.timefd_lint_diagnosis.specs.declared.diagnostic.Diagnostic.{Diagnostic}
use Rattle.timefd_lint_diagnosis.specs.declared.diagnostic.Span.{Span}
use Rattle.timefd_lint_diagnosis.specs.Helps.{nearest_in}
use Rattle.timefd_lint_drawing.specs.declared.draw.Style.{Style}
use Rattle.timefd_lint_drawing.specs.declared.finding.FindingKind.{FindingKind}
use Rattle.timefd_lint_drawing.specs.declared.finding.FindingKind.TheVariants.{Fault, Further}
use Rattle.timefd_lint_drawing.specs.declared.form.Format.{Format}
use Rattle.timefd_lint_drawing.specs.declared.form.SentenceStyle.{SentenceStyle}
use Rattle.timefd_lint_drawing.specs.declared.form.SentenceStyle.TheVariants.{Shown, Reported, Whole}
use Rattle.timefd_lint_drawing.specs.declared.position.Origin.{Origin}
use Rattle.timefd_lint_drawing.specs.declared.position.Position.{Position}
use Rattle.timefd_lint_drawing.specs.declared.severity.FindingSeverity.{FindingSeverity}
use Rattle.timefd_lint_drawing.specs.declared.severity.FindingSeverity.TheVariants.{Error}
use Rattle.timefd_lint_drawing.specs.Findings.{Cut, Located, Said, is_further}
use Rattle.timefd_lint_drawing.specs.Forms.{drawn_at, sentences, shows_fault_end, shows_part_end}
use Rattle.timefd_lint_drawing.specs.HelpText.{help_text}
use Rattle.timefd_lint_drawing.specs.Positions.{reported_position, before, spanned, after_span}
use Rattle.timefd_lint_drawing.specs.Sentence.{shown_sentence, reported_sentence}

abbrev pub code : Diagnostic → Text
code d = name_of (code_of (fault_of d.fault).kind)

abbrev pub cut_at : Text → Span → Cut
cut_at text span = record {
  before = before span.start text;
  at = spanned span text;
  after = after_span span text;
}

-- The position of what follows a part, if the form shows it: a part at fault, or one of another language's format.
abbrev pub end_if : Bool → Format → Origin → Text → ℕ → Option Position
end_if false format origin text at = None
end_if true format origin text at = Some (reported_position format origin.line text at)

abbrev pub fault_end : Format → Origin → Text → ℕ → Option Position
fault_end format origin text at = end_if (shows_fault_end format) format origin text at

abbrev pub part_end : Format → Origin → Text → ℕ → Option Position
part_end format origin text at = end_if (shows_part_end format) format origin text at

-- Where a part of a text is.
abbrev pub part_at : Option Position → Format → Origin → Text → Span → Located
part_at end format origin text span = record {
  file = origin.file.now;
  start = reported_position format origin.line text span.start;
  end = end;
  bytes = Some span;
  line = Some (cut_at text span);
}

-- For people a sentence shows only so much of a word, and may say what a further fault was found without. Programs read it whole.
abbrev pub sentence_by : SentenceStyle → FindingKind → Diagnostic → Text
sentence_by Shown kind d = shown_sentence (fault_of d.fault)
sentence_by Reported kind d = reported_sentence (is_further kind) (fault_of d.fault)
sentence_by Whole kind d = error_sentence d.fault

abbrev pub sentence_in : Format → FindingKind → Diagnostic → Text
sentence_in format kind d = sentence_by (sentences format) kind d

abbrev pub fault_said : Format → FindingKind → Diagnostic → Said
fault_said format kind d = record {
  severity = Error;
  kind = kind;
  code = code d;
  message = sentence_in format kind d;
  help = Some (help_text d.help);
  replacement = nearest_in d.help;
}

abbrev pub drawn_as : FindingKind → Style → Origin → Text → Diagnostic → Text
drawn_as kind style origin text d =
    drawn_at style (part_at (fault_end style.format origin text d.span.end) style.format origin text d.span)
    (fault_said style.format kind d)

-- A first fault is written this way, and a further one is marked as such.
abbrev pub drawn : Style → Origin → Text → Diagnostic → Text
drawn style origin text d = drawn_as Fault style origin text d

abbrev pub drawn_further : Style → Origin → Text → Diagnostic → Text
drawn_further style origin text d = drawn_as Further style origin text d

abbrev pub drawn_all : Style → Origin → Text → Diagnostic → List Diagnostic → Text
drawn_all style origin text d further =
    drawn style origin text d ++ flat_map (drawn_further style origin text) further

-- What is wrong with a whole file or line is reported in its first column.
abbrev pub whole : Origin → Located
whole origin = record {
  file = origin.file.now;
  start = record { line = origin.line; column = 1 };
  end = None;
  bytes = None;
  line = None;
}

abbrev pub note_said : FindingSeverity → Text → Text → Said
note_said severity code message = record {
  severity = severity;
  kind = Fault;
  code = code;
  message = message;
  help = None;
  replacement = None;
}

abbrev pub note_as : FindingSeverity → Style → Origin → Text → Text → Text
note_as severity style origin code message = drawn_at style (whole origin) (note_said severity code message)

abbrev pub note : Style → Origin → Text → Text → Text
note style origin code message = note_as Error style origin code message
