-- A diagnostic as a finding: its parts are those of the diagnostic.
use Rattle.std.proofs.Common.{◌≡◌, Option, Some}
use Rattle.timefd_lang_component.specs.Tree.{Text}
use Rattle.timefd_lint_diagnosis.specs.declared.diagnostic.Diagnostic.{Diagnostic}
use Rattle.timefd_lint_diagnosis.specs.Helps.{nearest_in}
use Rattle.timefd_lint_drawing.specs.declared.draw.Style.{Style}
use Rattle.timefd_lint_drawing.specs.declared.finding.FindingKind.{FindingKind}
use Rattle.timefd_lint_drawing.specs.declared.position.Origin.{Origin}
use Rattle.timefd_lint_drawing.specs.declared.position.Position.{Position}
use Rattle.timefd_lint_drawing.specs.declared.severity.FindingSeverity.TheVariants.{Error}
use Rattle.timefd_lint_drawing.specs.Drawing.{code, drawn_as, fault_end, part_at, sentence_in}
use Rattle.timefd_lint_drawing.specs.Findings.{Located}
use Rattle.timefd_lint_drawing.specs.Forms.{drawn_at}
use Rattle.timefd_lint_drawing.specs.HelpText.{help_text}

pub drawn_fault : (kind : FindingKind) (style : Style) (origin : Origin) (text : Text) (d : Diagnostic) (l : Located)
    {end : Option Position} {name sentence help reported : Text} {word : Option Text}
    → end ≡ fault_end style.format origin text d.span.end → l ≡ part_at end style.format origin text d.span
    → name ≡ code d → sentence ≡ sentence_in style.format kind d → help ≡ help_text d.help → word ≡ nearest_in d.help
    → reported ≡ drawn_at style l (record { severity = Error; kind = kind; code = name; message = sentence; help = Some help; replacement = word })
    → reported ≡ drawn_as kind style origin text d
drawn_fault kind style origin text d l e p n m h w is =
    rw w at (rw h at (rw m at (rw n at (rw e at (rw p at is)))))
