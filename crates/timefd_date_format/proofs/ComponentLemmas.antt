-- One component, put in front of a position or left out.
use Rattle.std.proofs.Common.{ℕ, ◌≡◌, ◌∙◌, Option, Some, None, Result, Ok, Err, refl, sym, ap, subst}
use Rattle.timefd_lang_component.specs.declared.component.Component.{Component}
use Rattle.timefd_lang_component.specs.Modern.{modern}
use Rattle.timefd_lang_component.specs.Tree.{Text}
use Rattle.timefd_date_moment.specs.declared.moment.Moment.{Moment}
use Rattle.timefd_date_format.specs.declared.field.WrittenField.{WrittenField}
use Rattle.timefd_date_format.specs.declared.field.Lack.{Lack}
use Rattle.timefd_date_format.specs.declared.cursor.WriteCursor.{WriteCursor}
use Rattle.timefd_date_format.specs.declared.cursor.WriteCursor.TheVariants as cursor
use Rattle.timefd_date_format.specs.declared.field.Unshown.{Unshown}
use Rattle.timefd_date_format.specs.Fields.{field, field_text}
use Rattle.timefd_date_format.specs.Puts.{Puts}
use Rattle.timefd_date_format.specs.Writes.{IsLeftOut, IsNotAt, PutsShown, Writes}
use Rattle.timefd_date_format.specs.Written.{shown, text_of}

pub put_writes : (x : Result Text Unshown) (old new : Text) (end at : ℕ)
    → PutsShown x old end new (Some at) → Writes x old (cursor.At end) new (cursor.At at)
put_writes (Ok text) old new end at put = put
put_writes (Err u) old new end at put = absurd cc

pub left_here : (x : Result Text Unshown) (old new : Text) (end : ℕ) (q : WriteCursor)
    → PutsShown x old end new None → IsLeftOut x (cursor.At end) q → Writes x old (cursor.At end) new q
left_here (Ok text) old new end cursor.NoRoom put left = put
left_here (Ok text) old new end (cursor.At at) put left = absurd cc
left_here (Ok text) old new end (cursor.Unshown u) put left = absurd cc
left_here (Err u) old new end q put left = left

pub left_after : (x : Result Text Unshown) (old new : Text) (p q : WriteCursor) → IsNotAt p
    → IsLeftOut x p q → Writes x old p new q
left_after (Ok text) old new cursor.NoRoom q is left = left
left_after (Ok text) old new (cursor.Unshown u) q is left = left
left_after (Ok text) old new (cursor.At end) q is left = absurd is
left_after (Err u) old new p q is left = left

-- What the component shows, from its field.

shows : (m : Moment) (c d : Component) (r x : Result WrittenField Lack) → d ≡ modern c → r ≡ field m d → r ≡ x
    → shown m c ≡ text_of d x
shows m c d r x current is so =
    (λ i. text_of (sym current i) (field m (sym current i))) ∙ ap (text_of d) (sym is ∙ so)

pub field_put : (m : Moment) (c d : Component) (r : Result WrittenField Lack) (f : WrittenField) (old new : Text)
    (end : ℕ) (at : Option ℕ) → d ≡ modern c → r ≡ field m d → r ≡ Ok f
    → Puts (field_text f) old end new at → PutsShown (shown m c) old end new at
field_put m c d r f old new end at current is so put =
    subst (λ x. PutsShown x old end new at) (sym (shows m c d r (Ok f) current is so)) put

pub field_lacks : (m : Moment) (c d : Component) (r : Result WrittenField Lack) (lack : Lack) (old : Text) (end : ℕ)
    → d ≡ modern c → r ≡ field m d → r ≡ Err lack → PutsShown (shown m c) old end old None
field_lacks m c d r lack old end current is so =
    subst (λ x. PutsShown x old end old None) (sym (shows m c d r (Err lack) current is so)) refl

pub shown_left : (m : Moment) (c d : Component) (r : Result WrittenField Lack) (f : WrittenField) (p q : WriteCursor)
    → d ≡ modern c → r ≡ field m d → r ≡ Ok f → IsLeftOut (Ok (field_text f)) p q
    → IsLeftOut (shown m c) p q
shown_left m c d r f p q current is so left =
    subst (λ x. IsLeftOut x p q) (sym (shows m c d r (Ok f) current is so)) left

pub lack_left : (m : Moment) (c d : Component) (r : Result WrittenField Lack) (lack : Lack) (p : WriteCursor)
    → d ≡ modern c → r ≡ field m d → r ≡ Err lack
    → IsLeftOut (shown m c) p (cursor.Unshown (record { component = d; lack = lack }))
lack_left m c d r lack p current is so =
    subst (λ x. IsLeftOut x p (cursor.Unshown (record { component = d; lack = lack })))
    (sym (shows m c d r (Err lack) current is so)) refl
