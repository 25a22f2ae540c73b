-- What is written for a tree is a rendering of it.
use Rattle.std.proofs.Common.{◌≡◌, ◌/◌, ◌⊎◌, inl, inr, true, false, Option, Some, None, Result, Ok, Err, IfOk, IfSome, refl, subst, arith}
use Rattle.timefd_modifier.specs.declared.enums.Padding.{Padding}
use Rattle.timefd_lang_component.specs.declared.component.Component.{Component}
use Rattle.timefd_lang_component.specs.declared.component.Component.TheVariants.{OffsetHour, UnixTimestampMillisecond, UnixTimestampMicrosecond}
use Rattle.timefd_lang_component.specs.Modern.{modern, IsModern, AreModern}
use Rattle.timefd_lang_component.specs.Texts.{IsText, Renders, RendersAll, RendersFirst}
use Rattle.timefd_lang_component.specs.Tree.{Text, Tree, component, literal, compound, optional, first, Trees, no_trees, more_trees}
use Rattle.timefd_date_moment.specs.declared.date.Date.{Date}
use Rattle.timefd_date_moment.specs.declared.time.Time.{Time}
use Rattle.timefd_date_moment.specs.declared.offset.UtcOffset.{UtcOffset}
use Rattle.timefd_date_moment.specs.declared.moment.Moment.{Moment}
use Rattle.timefd_date_moment.specs.declared.unix_time.UnixTime.{UnixTime}
use Rattle.timefd_date_moment.specs.Moments.{unix_time}
use Rattle.timefd_date_format.specs.declared.field.WrittenField.{WrittenField}
use Rattle.timefd_date_format.specs.declared.field.Lack.{Lack}
use Rattle.timefd_date_format.specs.declared.field.Unshown.{Unshown}
use Rattle.timefd_date_format.specs.Fields.{field, field_text, on_date, on_time, on_offset, instant_field}
use Rattle.timefd_date_format.specs.Laws.{IsTextOf, IsMinusZero, RendersBy, RendersAllBy, RendersFirstBy, IsFormatted, HasHours, HasMillisecond, HasMilliseconds, HasNoMinusZero}
use Rattle.timefd_date_format.specs.Written.{written, written_all, written_first, followed, text_of, shown}
use Rattle.timefd_date_format.proofs.TextLemmas.{renders, signed_text, of_instant, lowest, highest}

mutual
  listed_by : (t : Tree) (text : Text) → RendersBy IsText t text → Renders t text
  listed_by (component c) text h = h
  listed_by (literal bytes) text h = h
  listed_by (compound ts) text h = listed_all ts text h
  listed_by (optional true t) text h = listed_by t text h
  listed_by (optional false t) text h = h
  listed_by (first ts) text h = listed_first ts text h

  listed_all : (ts : Trees) (text : Text) → RendersAllBy IsText ts text → RendersAll ts text
  listed_all no_trees text h = h
  listed_all (more_trees t ts) text h =
      (h.0, h.1, listed_by t h.0 h.2, listed_all ts h.1 h.3, h.4)

  listed_first : (ts : Trees) (text : Text) → RendersFirstBy IsText ts text → RendersFirst ts text
  listed_first no_trees text h = h
  listed_first (more_trees t ts) text h = listed_by t text h

mutual
  pub formatted : (t : Tree) (text : Text) → Renders t text → IsFormatted t text
  formatted (component c) text h = inl h
  formatted (literal bytes) text h = h
  formatted (compound ts) text h = formatted_all ts text h
  formatted (optional true t) text h = formatted t text h
  formatted (optional false t) text h = h
  formatted (first ts) text h = formatted_first ts text h

  formatted_all : (ts : Trees) (text : Text) → RendersAll ts text → RendersAllBy IsTextOf ts text
  formatted_all no_trees text h = h
  formatted_all (more_trees t ts) text h =
      (h.0, h.1, formatted t h.0 h.2, formatted_all ts h.1 h.3, h.4)

  formatted_first : (ts : Trees) (text : Text) → RendersFirst ts text → RendersFirstBy IsTextOf ts text
  formatted_first no_trees text h = h
  formatted_first (more_trees t ts) text h = formatted t text h

-- If `P` holds for what is shown, then what is written is a rendering by texts with `P`.
module _ (m : Moment) (P : Component → Text → Type 0)
    (each : (c : Component) → IfOk (field m c) (λ f. P c (field_text f))) where
  of_field : (c : Component) (r : Result WrittenField Lack) → IfOk r (λ f. P c (field_text f))
      → IfOk (text_of c r) (P c)
  of_field c (Ok f) h = h
  of_field c (Err l) h = tt

  of_component : (c : Component) → modern c ≡ c → IfOk (shown m c) (P c)
  of_component c is =
      subst (λ d. IfOk (shown m c) (P d)) is (of_field (modern c) (field m (modern c)) (each (modern c)))

  both : (t : Tree) (ts : Trees) (x y : Result Text Unshown) → IfOk x (RendersBy P t)
      → IfOk y (RendersAllBy P ts) → IfOk (followed x y) (RendersAllBy P (more_trees t ts))
  both t ts (Ok a) (Ok b) f g = (a, b, f, g, refl)
  both t ts (Ok a) (Err u) f g = tt
  both t ts (Err u) y f g = tt

  mutual
    pub writes_by : (t : Tree) → IsModern t → IfOk (written m t) (RendersBy P t)
    writes_by (component c) is = of_component c is
    writes_by (literal bytes) is = refl
    writes_by (compound ts) is = writes_all_by ts is
    writes_by (optional true t) is = writes_by t is
    writes_by (optional false t) is = refl
    writes_by (first ts) is = writes_first_by ts is

    writes_all_by : (ts : Trees) → AreModern ts → IfOk (written_all m ts) (RendersAllBy P ts)
    writes_all_by no_trees is = refl
    writes_all_by (more_trees t ts) is =
        both t ts (written m t) (written_all m ts) (writes_by t is.0) (writes_all_by ts is.1)

    writes_first_by : (ts : Trees) → AreModern ts → IfOk (written_first m ts) (RendersFirstBy P ts)
    writes_first_by no_trees is = refl
    writes_first_by (more_trees t ts) is = writes_by t is.0

pub writes_formatted : (m : Moment) (t : Tree) → IsModern t → IfOk (written m t) (IsFormatted t)
writes_formatted m t is = writes_by m IsTextOf (λ c. renders m c) t is

-- For moments without the zero of a negative number.

offset_where : (P : WrittenField → Type 0) (o : Option UtcOffset) (g : UtcOffset → Result WrittenField Lack)
    → IfSome o HasHours → ((z : UtcOffset) → HasHours z → IfOk (g z) P) → IfOk (on_offset o g) P
offset_where P None g q h = tt
offset_where P (Some z) g q h = h z q

instant_where : (P : WrittenField → Type 0) (c : Component) (od : Option Date) (ot : Option Time)
    (oo : Option UtcOffset) → HasMilliseconds od ot oo
    → ((d : Date) (t : Time) (o : UtcOffset) → HasMillisecond d t o
    → IfOk (instant_field (unix_time d t o) c) P)
    → IfOk (on_date od (λ d. on_time ot (λ t. on_offset oo (λ o.
    instant_field (unix_time d t o) c)))) P
instant_where P c None ot oo q h = tt
instant_where P c (Some d) None oo q h = tt
instant_where P c (Some d) (Some t) None q h = tt
instant_where P c (Some d) (Some t) (Some o) q h = h d t o q

no_zero : {A : Type 0} → A ⊎ ⊥ → A
no_zero (inl a) = a
no_zero (inr z) = absurd z

plain_text : (c : Component) (text : Text) → (IsMinusZero c text → ⊥) → IsTextOf c text
    → IsText c text
plain_text c text h (inl is) = is
plain_text c text h (inr z) = absurd (h z)

plain_field : (c : Component) (r : Result WrittenField Lack) → ((text : Text) → IsMinusZero c text → ⊥)
    → IfOk r (λ f. IsTextOf c (field_text f)) → IfOk r (λ f. IsText c (field_text f))
plain_field c (Ok f) h is = plain_text c (field_text f) (h (field_text f)) is
plain_field c (Err l) h is = tt

listed : (m : Moment) (c : Component) → HasNoMinusZero m
    → IfOk (field m c) (λ f. IsText c (field_text f))
listed m (OffsetHour p) lacks =
    offset_where (λ f. IsText (OffsetHour p) (field_text f)) m.offset _ lacks.0 (λ o long.
    no_zero (signed_text p.padding 2 p.sign_is_mandatory o.is_negative (o.seconds / 3600) 25 25
    (λ text. ⊥) (λ n. omega (arith, o.within)) (λ n. omega (arith, o.within))
    (λ n z. omega (arith, long n, z))))
listed m (UnixTimestampMillisecond p) lacks =
    instant_where (λ f. IsText (UnixTimestampMillisecond p) (field_text f)) (UnixTimestampMillisecond p)
    m.date m.time m.offset lacks.1 (λ d t o long.
    let u : UnixTime = unix_time d t o in
    of_instant (λ f. IsText (UnixTimestampMillisecond p) (field_text f)) u (UnixTimestampMillisecond p)
    (λ shown. no_zero (signed_text Padding.None 1 p.sign_is_mandatory u.is_negative
    (u.nanoseconds / 1000000) 31619087596800000 31494784780799999 (λ text. ⊥)
    (λ n. omega (arith, lowest u shown n)) (λ n. omega (arith, highest u shown n))
    (λ n z. omega (arith, long n, z)))))
listed m (UnixTimestampMicrosecond p) lacks =
    instant_where (λ f. IsText (UnixTimestampMicrosecond p) (field_text f)) (UnixTimestampMicrosecond p)
    m.date m.time m.offset lacks.1 (λ d t o long.
    let u : UnixTime = unix_time d t o in
    of_instant (λ f. IsText (UnixTimestampMicrosecond p) (field_text f)) u (UnixTimestampMicrosecond p)
    (λ shown. no_zero (signed_text Padding.None 1 p.sign_is_mandatory u.is_negative
    (u.nanoseconds / 1000) 31619087596800000000 31494784780799999999 (λ text. ⊥)
    (λ n. omega (arith, lowest u shown n)) (λ n. omega (arith, highest u shown n))
    (λ n z. omega (arith, long n, z)))))
listed m c lacks = plain_field c (field m c) (λ text z. absurd z) (renders m c)

of_listed : (t : Tree) (x : Result Text Unshown) → IfOk x (RendersBy IsText t) → IfOk x (Renders t)
of_listed t (Ok text) h = listed_by t text h
of_listed t (Err u) h = tt

pub writes_listed : (m : Moment) (t : Tree) → IsModern t → HasNoMinusZero m
    → IfOk (written m t) (Renders t)
writes_listed m t is lacks =
    of_listed t (written m t) (writes_by m IsText (λ c. listed m c lacks) t is)
