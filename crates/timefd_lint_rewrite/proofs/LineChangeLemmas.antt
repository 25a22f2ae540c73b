-- What lines are changed to.
use Rattle.std.proofs.Common.{ℕ, ◌≡◌, subst}
use Rattle.std.specs.Prelude.{string_bytes}
use Rattle.timefd_parse.specs.Tree.{Text}
use Rattle.timefd_lang_dialect.specs.declared.dialect.Dialect.{Dialect}
use Rattle.timefd_lang_dialect.specs.declared.error.RefusedPart.{RefusedPart}
use Rattle.timefd_lang_dialect.specs.declared.reading.Converted.{Converted}
use Rattle.timefd_lang_dialect.specs.Answers.{IsConverted as IsConvertedTo}
use Rattle.timefd_lang_dialect.specs.Items.{IsSpelledBy}
use Rattle.timefd_lang_dialect.specs.Reading.{RefusedAt}
use Rattle.timefd_parse.specs.Faults.{fault_of}
use Rattle.timefd_parse.specs.InvalidFormatDescription.{InvalidFormatDescription}
use Rattle.timefd_parse.specs.ParseError.{ParseError}
use Rattle.timefd_parse.specs.ParseError.TheVariants.{Invalid}
use Rattle.timefd_lint_rewrite.specs.declared.layout.Layout.{Layout}
use Rattle.timefd_lint_rewrite.specs.declared.layout.Layout.TheVariants.{Least, Normal, Fixed}
use Rattle.timefd_lint_rewrite.specs.declared.line_change.LineChange.TheVariants.{Own, Other}
use Rattle.timefd_lint_rewrite.specs.Layouts.{IsRefusal, IsRefusedFor}
use Rattle.timefd_lint_rewrite.specs.LineChanges.{IsChanged, IsUnchangeable}

-- An error that says that a text is refused holds its fault.
pub refused_for : (layout : Layout) (text : Text) (f : InvalidFormatDescription)
    → IsRefusal layout text (Invalid f) → IsRefusedFor layout text (fault_of f)
refused_for (Least conversion) text f is = is
refused_for (Normal conversion) text f is = is
refused_for (Fixed language fixes) text f is = is

pub of_fault : (layout : Layout) (text : Text) (f : InvalidFormatDescription)
    → IsRefusal layout text (Invalid f) → IsUnchangeable (Own layout) text
of_fault layout text f is = (fault_of f, refused_for layout text f is)

pub of_pieces : (dialect : Dialect) (text : Text) (answer : Converted) → IsConvertedTo dialect text answer
    → IsSpelledBy dialect text (string_bytes answer.text)
    → IsChanged (Other dialect) text (string_bytes answer.text)
of_pieces dialect text answer converted spelled = record {
  pieces = converted.0;
  means = converted.1;
  same = converted.2;
  same_items = spelled;
}

pub of_refusal : (dialect : Dialect) (text : Text) (refusal : RefusedPart)
    → RefusedAt dialect text refusal.reason refusal.index → IsUnchangeable (Other dialect) text
of_refusal dialect text refusal is = (refusal.reason, refusal.index, is)
