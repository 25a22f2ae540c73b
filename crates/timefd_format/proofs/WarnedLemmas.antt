-- What is reported about two descriptions.
use Rattle.std.proofs.Common.{◌≡◌, ◌++◌, ◌∙◌, Bool, Option, codes, ap, subst}
use Rattle.timefd_lang_component.specs.Tree.{Text}
use Rattle.timefd_lint_drawing.specs.declared.position.Origin.{Origin}
use Rattle.timefd_format.specs.declared.report.MessageFate.{MessageFate}
use Rattle.timefd_format.specs.declared.warned.Texts.{Texts}
use Rattle.timefd_format.specs.declared.warned.Warned.{Warned}
use Rattle.timefd_format.specs.Reports.{ReachesPeople}
use Rattle.timefd_format.specs.Warned.{IsNamed, ReportsWarnings, warned_text}

pub joined : (first second front after reported : Text) → front ≡ first → after ≡ second
    → reported ≡ front ++ after → reported ≡ first ++ second
joined first second front after reported first_is second_is is =
    is ∙ ap (λ t. t ++ after) first_is ∙ ap (λ t. first ++ t) second_is

pub reports : (colored : Bool) (texts : Texts) (w : Warned) (before after : Option Text) (failed : Bool)
    (r : MessageFate) (read written : Origin) (text : Text) → IsNamed (codes "<read>") read
    → IsNamed (codes "<description>") written → text ≡ warned_text colored read written texts w
    → ReachesPeople colored text before after failed r → ReportsWarnings colored texts w before after failed r
reports colored texts w before after failed r read written text of_read of_written is reaches =
    (read, written, of_read, of_written, subst (λ t. ReachesPeople colored t before after failed r) is reaches)
