-- A warning as a finding: its words are the warning's.
use Rattle.std.proofs.Common.{ℕ, ◌≡◌, None, Some}
use Rattle.timefd_parse.specs.Tree.{Text}
use Rattle.timefd_lang_warnings.specs.declared.levels.Level.{Level}
use Rattle.timefd_lang_warnings.specs.declared.warning.Warning.{Warning}
use Rattle.timefd_lang_warnings.specs.Codes.{name_of, sentence_of}
use Rattle.timefd_lint_diagnosis.specs.declared.diagnostic.Span.{Span}
use Rattle.timefd_lint_drawing.specs.declared.draw.Style.{Style}
use Rattle.timefd_lint_drawing.specs.declared.finding.FindingKind.TheVariants.{Labelled}
use Rattle.timefd_lint_drawing.specs.declared.position.Origin.{Origin}
use Rattle.timefd_lint_drawing.specs.declared.severity.FindingSeverity.{FindingSeverity}
use Rattle.timefd_lint_drawing.specs.Findings.{Located}
use Rattle.timefd_lint_drawing.specs.Forms.{drawn_at}
use Rattle.timefd_lint_warnings.specs.Hints.{help_on}
use Rattle.timefd_lint_warnings.specs.Messages.{located, message, said, severity}

pub as_finding : (style : Style) (origin : Origin) (whole : Text) (span : Span) (text : Text) (column : ℕ) (level : Level)
    (w : Warning) (l : Located) {how : FindingSeverity} {name sentence help reported : Text}
    → l ≡ located style.format origin whole span column → how ≡ severity level → name ≡ name_of w
    → sentence ≡ sentence_of w → help ≡ help_on w text
    → reported ≡ drawn_at style l (record { severity = how; kind = Labelled; code = name; message = sentence; help = Some help; replacement = None })
    → reported ≡ message style origin whole span text column level w
as_finding style origin whole span text column level w l p v n m h is =
    rw h at (rw m at (rw n at (rw v at (rw p at is))))
