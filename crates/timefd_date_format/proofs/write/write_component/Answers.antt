use Rattle.std.proofs.Common.{ℕ, ◌≡◌, ◌∙◌, length, Some, Result, Ok, sym, ap, subst}
use Rattle.timefd_lang_component.specs.declared.component.Component.{Component}
use Rattle.timefd_lang_component.specs.Modern.{modern}
use Rattle.timefd_lang_component.specs.Tree.{Text}
use Rattle.timefd_date_moment.specs.declared.moment.Moment.{Moment}
use Rattle.timefd_date_format.specs.declared.field.WrittenField.{WrittenField}
use Rattle.timefd_date_format.specs.declared.field.Lack.{Lack}
use Rattle.timefd_date_format.specs.Fields.{field, field_text}
use Rattle.timefd_date_format.specs.Outcomes.{IsOutcome}
use Rattle.timefd_date_format.specs.Puts.{Puts}
use Rattle.timefd_date_format.specs.Written.{shown, text_of}
use Rattle.timefd_date_format.proofs.OutcomeLemmas.{ends_utf8, placed}
use Rattle.timefd_date_format.proofs.Utf8Lemmas.{shown_utf8}
use Rattle.timefd_date_format.proofs.write.write_component.Goals as goal

-- The text of its field, at the end of the buffer.
text_placed : (m : Moment) (c d : Component) (r : Result WrittenField Lack) (f : WrittenField) (old new : Text) (at : ℕ)
    → d ≡ modern c → r ≡ field m d → r ≡ Ok f → Puts (field_text f) old (length old) new (Some at)
    → IsOutcome (shown m c) old new (Ok at)
text_placed m c d r f old new at current is ok put =
    let shows : shown m c ≡ Ok (field_text f) =
    (λ i. text_of (sym current i) (field m (sym current i))) ∙ ap (text_of d) (sym is ∙ ok) in
    subst (λ x. IsOutcome x old new (Ok at)) (sym shows) (placed (Ok (field_text f)) old new at put)

pub returns-in-Some-clause-outcome : goal.returns-in-Some-clause-outcome
returns-in-Some-clause-outcome c =
    text_placed c.args.moment c.args.component c.modern-modern.result c.field.result c.in-Ok.field
    c.args.buffer.now c.put_field.new.buffer c.in-Some.at c.modern-modern.ensures.table c.field.ensures.table
    c.in-Ok.is c.in-Some.ensures

pub returns-in-Some-clause-utf8 : goal.returns-in-Some-clause-utf8
returns-in-Some-clause-utf8 c =
    ends_utf8 (shown c.args.moment c.args.component) c.args.buffer.now c.put_field.new.buffer c.in-Some.at
    (returns-in-Some-clause-outcome c) (shown_utf8 c.args.moment c.args.component)
