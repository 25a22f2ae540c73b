-- What is found in a text or said of a file.
use Rattle.std.specs.Prelude.{Bool, true, false, ◌++◌, Option, None, Some, codes, option_map}
use Rattle.timefd_lang_component.specs.Tree.{Text}
use Rattle.timefd_lint_diagnosis.specs.declared.diagnostic.Span.{Span}
use Rattle.timefd_lint_drawing.specs.declared.finding.FindingWords.{FindingWords}
use Rattle.timefd_lint_drawing.specs.declared.finding.FindingKind.{FindingKind}
use Rattle.timefd_lint_drawing.specs.declared.finding.FindingKind.TheVariants.{Fault, Further, Labelled, Aside}
use Rattle.timefd_lint_drawing.specs.declared.finding.FindingLocation.{FindingLocation}
use Rattle.timefd_lint_drawing.specs.declared.position.Line.{Line}
use Rattle.timefd_lint_drawing.specs.declared.position.Position.{Position}
use Rattle.timefd_lint_drawing.specs.declared.severity.FindingSeverity.{FindingSeverity}

-- the words of a finding
pub record Said : Type 0 where
  pub severity : FindingSeverity
  pub kind : FindingKind
  pub code : Text
  pub message : Text
  pub help : Option Text
  pub replacement : Option Text

-- a line, cut at the part in it
pub record Cut : Type 0 where
  pub before : Text
  pub at : Text
  pub after : Text

-- where a finding is, as far as the form shows it
pub record Located : Type 0 where
  pub file : Text
  pub start : Position
  pub end : Option Position
  pub bytes : Option Span
  pub line : Option Cut

abbrev pub said_of : FindingWords → Said
said_of f = record {
  severity = f.severity;
  kind = f.kind;
  code = f.code.now;
  message = f.message.now;
  help = option_map (λ text. text.now) f.help;
  replacement = option_map (λ text. text.now) f.replacement;
}

abbrev pub cut_of : Line → Cut
cut_of l = record { before = l.before.now; at = l.at.now; after = l.after.now }

abbrev pub located_of : FindingLocation → Located
located_of l = record {
  file = l.file.now;
  start = l.start;
  end = l.end;
  bytes = l.bytes;
  line = option_map cut_of l.line;
}

abbrev pub is_further : FindingKind → Bool
is_further Fault = false
is_further Further = true
is_further Labelled = false
is_further Aside = false

-- the sentence, and the help in a line after it
abbrev pub with_help : Text → Text → Text
with_help sentence help = sentence ++ (codes "\n" ++ help)

abbrev pub described_by : Option Text → Text → Text
described_by None message = message
described_by (Some help) message = with_help message help

abbrev pub described : Said → Text
described s = described_by s.help s.message
