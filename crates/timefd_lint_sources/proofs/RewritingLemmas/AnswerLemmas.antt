-- What one description is fixed or converted to.
use Rattle.std.proofs.Common.{ℕ, ◌≡◌, ◌≢◌, true, false, inl, inr, refl, sym, subst, ◌∙◌}
use Rattle.std.specs.Prelude.{IsUtf8, Option, None, Some}
use Rattle.timefd_parse.specs.Tree.{Text}
use Rattle.timefd_parse.specs.InvalidFormatDescription.{InvalidFormatDescription}
use Rattle.timefd_parse.specs.Faults.{Fault, fault_of}
use Rattle.timefd_parse.specs.ParseError.{ParseError}
use Rattle.timefd_parse.specs.ParseError.TheVariants.{Invalid}
use Rattle.timefd_language.specs.declared.description_version.DescriptionVersion.{DescriptionVersion}
use Rattle.timefd_lint_rewrite.specs.declared.layout.Layout.{Layout}
use Rattle.timefd_lint_rewrite.specs.Layouts.{IsConverted, IsRefusal, IsRefusedFor}
use Rattle.timefd_lint_rewrite.proofs.LineChangeLemmas.{refused_for}
use Rattle.timefd_lint_scan.specs.declared.description.SourceDescription.{SourceDescription}
use Rattle.timefd_lint_scan.specs.Written.{IsBodyFor, has_body}
use Rattle.timefd_lint_sources.specs.Items.{HoldsItem, taking}
use Rattle.timefd_lint_sources.specs.Judged.{text_of}
use Rattle.timefd_lint_sources.specs.declared.rewriting.answer.Answer.TheVariants.{Stays}
use Rattle.timefd_lint_sources.specs.declared.rewriting.change.Change.{Change}
use Rattle.timefd_lint_sources.specs.declared.rewriting.outcome.Outcome.TheVariants.{PassedOver, Same, Refused, WithItems, NotText, NotALiteral, ByHand}
use Rattle.timefd_lint_sources.specs.Rewriting.Aside.{IsConvertedAround}
use Rattle.timefd_lint_sources.specs.Rewriting.Changes.{layout_of, new_digit}
use Rattle.timefd_lint_sources.specs.Rewriting.Written.{BecomesBy, Becoming, IsAnswer, IsRewritten, IsChange, IsLaidOutBy, is_sayable, line_ends, old_line_ends}

pub passed_over : (change : Change) (source : Text) (d : SourceDescription) (text : Text) → text ≡ text_of d
    → layout_of change d.dialect text ≡ None → IsAnswer change source d (Stays PassedOver)
passed_over change source d text same none =
    (refl, subst (λ (t : Text). layout_of change d.dialect t ≡ None) same none)

laid_out : (change : Change) (d : SourceDescription) (text : Text) (layout : Layout) → text ≡ text_of d
    → layout_of change d.dialect text ≡ Some layout → IsLaidOutBy change d layout
laid_out change d text layout same is =
    subst (λ (t : Text). layout_of change d.dialect t ≡ Some layout) same is

pub no_text : (change : Change) (source : Text) (d : SourceDescription) (text : Text) (layout : Layout) → text ≡ text_of d
    → layout_of change d.dialect text ≡ Some layout → (¬ IsUtf8 text) → IsAnswer change source d (Stays NotText)
no_text change source d text layout same is none = (
  refl,
  (subst (λ (t : Text). ¬ IsUtf8 t) same none, (layout, laid_out change d text layout same is)),
)

-- The text that a layout gives, or that is known once items are set aside.

pub converts : (d : SourceDescription) (layout : Layout) (text answer : Text) → text ≡ text_of d
    → IsConverted layout text answer → BecomesBy layout d answer
converts d layout text answer same is = inl (subst (λ (t : Text). IsConverted layout t answer) same is)

pub converts_around : (d : SourceDescription) (layout : Layout) (text answer : Text) (v : DescriptionVersion)
    (found : Option DescriptionVersion) → text ≡ text_of d → found ≡ taking d.items d.dialect → found ≡ Some v
    → IsConvertedAround v layout text answer → BecomesBy layout d answer
converts_around d layout text answer v found same taken is around =
    inr (v, sym taken ∙ is, subst (λ (t : Text). IsConvertedAround v layout t answer) same around)

pub becoming : (change : Change) (d : SourceDescription) (layout : Layout) (answer : Text)
    → IsLaidOutBy change d layout → BecomesBy layout d answer → Becoming change d answer
becoming change d layout answer by is = record { layout = layout; chosen = by; converted = is }

pub is_refused : (layout : Layout) (text : Text) (e : ParseError) (f : InvalidFormatDescription) → e ≡ Invalid f
    → IsRefusal layout text e → (g : Fault) × IsRefusedFor layout text g
is_refused layout text e f which is =
    (fault_of f, refused_for layout text f (subst (λ (x : ParseError). IsRefusal layout text x) which is))

pub refused : (change : Change) (source : Text) (d : SourceDescription) (layout : Layout) (text : Text)
    → IsLaidOutBy change d layout → text ≡ text_of d → IsUtf8 text → ((g : Fault) × IsRefusedFor layout text g)
    → (HoldsItem (taking d.items d.dialect) text → ⊥) → IsAnswer change source d (Stays Refused)
refused change source d layout text by same utf8 (g, for) none = (
  refl,
  (
    subst (λ (x : Text). IsUtf8 x) same utf8,
    (layout, by, (g, subst (λ (x : Text). IsRefusedFor layout x g) same for)),
    subst (λ (x : Text). HoldsItem (taking d.items d.dialect) x → ⊥) same none,
  ),
)

pub with_items : (change : Change) (source : Text) (d : SourceDescription) (text : Text) → text ≡ text_of d
    → HoldsItem (taking d.items d.dialect) text → IsAnswer change source d (Stays WithItems)
with_items change source d text same holds =
    (refl, subst (λ (x : Text). HoldsItem (taking d.items d.dialect) x) same holds)

pub manual : (change : Change) (source : Text) (d : SourceDescription) (answer : Text) (digit : Option ℕ)
    → Becoming change d answer → digit ≡ new_digit change d.dialect → is_sayable d.version digit ≡ false
    → IsAnswer change source d (Stays ByHand)
manual change source d answer digit becoming is none = (
  refl,
  ((answer, becoming), subst (λ (x : Option ℕ). is_sayable d.version x ≡ false) is none),
)

pub stays_the_text : (change : Change) (d : SourceDescription) (text answer : Text) → Becoming change d answer
    → answer ≡ text → text ≡ text_of d → Becoming change d (text_of d)
stays_the_text change d text answer becoming equal same = subst (Becoming change d) (equal ∙ same) becoming

pub same : (change : Change) (source : Text) (d : SourceDescription) (digit : Option ℕ)
    → Becoming change d (text_of d) → digit ≡ new_digit change d.dialect → digit ≡ None
    → IsAnswer change source d (Stays Same)
same change source d digit becoming is none = (refl, (becoming, sym is ∙ none))

pub renumbered : (change : Change) (source : Text) (d : SourceDescription) (digit : Option ℕ) (new : ℕ)
    → Becoming change d (text_of d) → digit ≡ new_digit change d.dialect
    → is_sayable d.version digit ≡ true → digit ≡ Some new → IsRewritten change source d digit None
renumbered change source d digit new becoming is says some = record {
  answer = text_of d;
  becoming = becoming;
  version = is;
  sayable = says;
  body_of = refl;
  changes = subst (λ (x : Option ℕ). IsChange x None) (sym some) tt;
}

changed : (digit : Option ℕ) (body : Text) → IsChange digit (Some body)
changed None body = tt
changed (Some digit) body = tt

pub becomes : (change : Change) (source : Text) (d : SourceDescription) (answer body : Text) (digit : Option ℕ)
    → Becoming change d answer → answer ≢ text_of d → digit ≡ new_digit change d.dialect
    → is_sayable d.version digit ≡ true → IsBodyFor d.kind answer body → line_ends body ≡ old_line_ends source d
    → IsRewritten change source d digit (Some body)
becomes change source d answer body digit becoming other is says stands lines = record {
  answer = answer;
  becoming = becoming;
  version = is;
  sayable = says;
  body_of = (other, stands, lines);
  changes = changed digit body;
}

pub no_body : (change : Change) (source : Text) (d : SourceDescription) (answer : Text)
    → Becoming change d answer → answer ≢ text_of d → has_body d.kind answer ≡ false
    → IsAnswer change source d (Stays NotALiteral)
no_body change source d answer becoming other none = (refl, (answer, becoming, other, inl none))

pub other_lines : (change : Change) (source : Text) (d : SourceDescription) (answer body : Text)
    → Becoming change d answer → answer ≢ text_of d → IsBodyFor d.kind answer body
    → line_ends body ≢ old_line_ends source d → IsAnswer change source d (Stays NotALiteral)
other_lines change source d answer body becoming other is lines =
    (refl, (answer, becoming, other, inr (body, is, lines)))
