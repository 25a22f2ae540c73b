-- What the linter says of a format of another language.
use Rattle.std.specs.Prelude.{ℕ, None, Some}
use Rattle.timefd_parse.specs.Tree.{Text}
use Rattle.timefd_lang_dialect.specs.declared.reason.Reason.{Reason}
use Rattle.timefd_lang_dialect.specs.declared.trapping.Found.{Found}
use Rattle.timefd_lang_dialect.specs.Reasons as reasons
use Rattle.timefd_lang_dialect.specs.TrapWords as traps
use Rattle.timefd_lint_diagnosis.specs.declared.diagnostic.Span.{Span}
use Rattle.timefd_lint_drawing.specs.declared.draw.Style.{Style}
use Rattle.timefd_lint_drawing.specs.declared.finding.FindingKind.TheVariants.{Labelled}
use Rattle.timefd_lint_drawing.specs.declared.position.Origin.{Origin}
use Rattle.timefd_lint_drawing.specs.declared.severity.FindingSeverity.{FindingSeverity}
use Rattle.timefd_lint_drawing.specs.declared.severity.FindingSeverity.TheVariants.{Error, Warning}
use Rattle.timefd_lint_drawing.specs.Drawing.{part_at, part_end}
use Rattle.timefd_lint_drawing.specs.Findings.{Said}
use Rattle.timefd_lint_drawing.specs.Forms.{drawn_at}

-- what is found in a part of a text
abbrev pub drawn : Style → Origin → Text → Span → Said → Text
drawn style origin text span said =
    drawn_at style (part_at (part_end style.format origin text span.end) style.format origin text span) said

abbrev pub part_said : FindingSeverity → Text → Text → Text → Said
part_said severity code message help = record {
  severity = severity;
  kind = Labelled;
  code = code;
  message = message;
  help = Some help;
  replacement = None;
}

-- the message on a part that is refused: an error where the part begins
abbrev pub refusal_drawn : Style → Origin → Text → Reason → ℕ → Text
refusal_drawn style origin text reason index =
    drawn style origin text (record { start = index; end = index })
    (part_said Error (reasons.name reason) (reasons.sentence reason) (reasons.cure reason))

-- the message on a trap: a warning on the directive
abbrev pub trap_drawn : Style → Origin → Text → Found → Text
trap_drawn style origin text f =
    drawn style origin text (record { start = f.start; end = f.end })
    (part_said Warning (traps.name f.trap) (traps.sentence f.trap) (traps.cure f.trap))
