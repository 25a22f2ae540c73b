-- What one component reads, and the fields after it.
use Rattle.std.proofs.Common.{ℕ, ◌≡◌, ◌∙◌, ◌≤◌, ◌<◌, ◌/◌, ◌++◌, ◌==◌, Bool, true, false, ◌||◌, nat_le, if◌then◌else◌}
use Rattle.std.proofs.Common.{length, Option, Some, None, Result, Ok, Err, IfOk, IfSome, refl, sym, ap, subst}
use Rattle.std.proofs.Math.Seq.{drop-append_seam}
use Rattle.std.proofs.lemmas.Bool.{cond_both, eq-eqb, leb-false, leb-true}
use Rattle.timefd_lang_component.specs.declared.component.Component.{Component}
use Rattle.timefd_lang_component.specs.Tree.{Text}
use Rattle.timefd_date_format.specs.declared.field.WrittenField.{WrittenField}
use Rattle.timefd_date_format.specs.declared.field.Lack.{Lack}
use Rattle.timefd_date_format.specs.Fields.{date_field, field_text, instant_field, offset_field, on_date, on_offset, on_time}
use Rattle.timefd_date_format.specs.Fields.{signed, stamp_field, time_field, year}
use Rattle.timefd_date_format.proofs.TextLemmas.{of_instant}
use Rattle.timefd_modifier.specs.declared.enums.Padding.{Padding}
use Rattle.timefd_date_moment.specs.declared.date.Date.{Date}
use Rattle.timefd_date_moment.specs.declared.time.Time.{Time}
use Rattle.timefd_date_moment.specs.declared.offset.UtcOffset.{UtcOffset}
use Rattle.timefd_date_moment.specs.Moments.{is_before_zero, magnitude, unix_time}
use Rattle.timefd_date_moment.specs.declared.moment.Moment.{Moment}
use Rattle.timefd_date_moment.specs.Instants.{is_within}
use Rattle.timefd_date_moment.specs.declared.fields.fields.Fields.{Fields}
use Rattle.timefd_date_moment.specs.declared.fields.fields.Signed.{Signed}
use Rattle.timefd_date_moment.specs.Fields.Readings.{kept, same, same_signed}
use Rattle.timefd_date_moment.specs.Fields.Reads.{agreed, read_component}
use Rattle.timefd_date_moment.proofs.ReadingLemmas.ShownLemmas.{clash}
use Rattle.timefd_lang_warnings.specs.Settling.Bounds.{bound_of}
use Rattle.timefd_laws.specs.Reading.Bounds.{IsBounded}
use Rattle.timefd_laws.specs.Reading.Laws.{at}
use Rattle.timefd_laws.specs.Reading.Shown.{IsOf, Shows, fields_shown, if_shown, with_component}

-- The text of a component is read as its fields, and nothing of what follows is read.
abbrev pub Row : Date → Time → UtcOffset → Shows → Component → Text → Type 0
Row d t o s c text = (rest : Text) → IsBounded (bound_of c) rest
    → read_component c (at d t o s (text ++ rest)) ≡ Ok (at d t o (with_component c s) rest)

-- After reading the text, the rest is what follows it.
pub after : (c : Component) (d : Date) (t : Time) (o : UtcOffset) (s v : Shows) (text rest : Text)
    (r : Option Fields) → r ≡ Some (fields_shown d t o v)
    → agreed c (at d t o s (text ++ rest)) (length text) r ≡ Ok (at d t o v rest)
after c d t o s v text rest r e =
    ap (agreed c (at d t o s (text ++ rest)) (length text)) e
    ∙ ap (λ (xs : Text). Ok (at d t o v xs)) (drop-append_seam text rest)

-- A field that is read twice has to have the same value.
abbrev pub merged : {A : Type 0} → (A → A → Bool) → Fields → (A → Fields) → A → Option A → Option Fields
merged is_same f set n None = Some (set n)
merged is_same f set n (Some before) = kept f (is_same before n)

pub once_more : {A : Type 0} (is_same : A → A → Bool) (f h : Fields) (set : A → Fields) (b : Bool) (k n : A)
    → k ≡ n → is_same n n ≡ true → set n ≡ h → (b ≡ true → f ≡ h)
    → merged is_same f set k (if_shown b n) ≡ Some h
once_more {A = A} is_same f h set true k n e one first is =
    ap (λ (j : A). merged is_same f set j (Some n)) e ∙ ap (kept f) one ∙ ap (λ x. Some x) (is refl)
once_more {A = A} is_same f h set false k n e one first is =
    ap (λ (j : A). merged is_same f set j None) e ∙ ap (λ x. Some x) first

abbrev pub equal : ℕ → ℕ → Bool
equal a b = a == b

pub same_sign : (b : Bool) → same b b ≡ true
same_sign true = refl
same_sign false = refl

pub same_number : (a : Signed) → same_signed a a ≡ true
same_number a =
    ap (λ b. if b then a.magnitude == a.magnitude else false) (same_sign a.is_negative)
    ∙ eq-eqb a.magnitude a.magnitude refl

-- The parts that a moment has are these.

pub of_date : (P : WrittenField → Type 0) (known : Option Date) (d : Date) (g : Date → Result WrittenField Lack)
    → IfSome known (λ e. e ≡ d) → IfOk (g d) P → IfOk (on_date known g) P
of_date P None d g is h = tt
of_date P (Some e) d g is h = subst (λ (x : Date). IfOk (g x) P) (sym is) h

pub of_time : (P : WrittenField → Type 0) (known : Option Time) (t : Time) (g : Time → Result WrittenField Lack)
    → IfSome known (λ e. e ≡ t) → IfOk (g t) P → IfOk (on_time known g) P
of_time P None t g is h = tt
of_time P (Some e) t g is h = subst (λ (x : Time). IfOk (g x) P) (sym is) h

pub of_offset : (P : WrittenField → Type 0) (known : Option UtcOffset) (o : UtcOffset) (g : UtcOffset → Result WrittenField Lack)
    → IfSome known (λ e. e ≡ o) → IfOk (g o) P → IfOk (on_offset known g) P
of_offset P None o g is h = tt
of_offset P (Some e) o g is h = subst (λ (x : UtcOffset). IfOk (g x) P) (sym is) h

-- a year that is not too long
pub of_year : (P : WrittenField → Type 0) (greatest width unit : ℕ) (p : Padding) (mandatory : Bool) (y : ℕ)
    → (magnitude y ≤ greatest
    → P (signed (is_before_zero y) (mandatory || nat_le 10000 (magnitude y)) p width (magnitude y / unit)))
    → IfOk (year greatest width unit p mandatory y) P
of_year P greatest width unit p mandatory y h =
    cond_both (nat_le (magnitude y) greatest)
    (Ok (signed (is_before_zero y) (mandatory || nat_le 10000 (magnitude y)) p width (magnitude y / unit)))
    (Err Lack.YearTooLong) (λ r. IfOk r P) (λ e. h (leb-true _ _ e)) (λ e. tt)

-- without a plus
pub no_plus : (mandatory : Bool) (n : ℕ) → (mandatory || nat_le 10000 n) ≡ false
    → (mandatory ≡ false) × (n < 10000)
no_plus true n e = absurd (clash true e refl)
no_plus false n e = (refl, leb-false 10000 n e)

-- The text of a field is read as the fields of its component, and nothing of what follows is read.
abbrev pub IsRow : Date → Time → UtcOffset → Shows → Component → WrittenField → Type 0
IsRow d t o s c f = Row d t o s c (field_text f)

module _ (m : Moment) (d : Date) (t : Time) (o : UtcOffset) (s : Shows) (is : IsOf m d t o) where
  pub by_date : (c : Component) → IfOk (date_field d c) (IsRow d t o s c)
      → IfOk (on_date m.date (λ e. date_field e c)) (IsRow d t o s c)
  by_date c h = of_date (IsRow d t o s c) m.date d (λ e. date_field e c) is.0 h

  pub by_time : (c : Component) → IsRow d t o s c (time_field t c)
      → IfOk (on_time m.time (λ e. Ok (time_field e c))) (IsRow d t o s c)
  by_time c h = of_time (IsRow d t o s c) m.time t (λ e. Ok (time_field e c)) is.1 h

  pub by_offset : (c : Component) → IsRow d t o s c (offset_field o c)
      → IfOk (on_offset m.offset (λ e. Ok (offset_field e c))) (IsRow d t o s c)
  by_offset c h = of_offset (IsRow d t o s c) m.offset o (λ e. Ok (offset_field e c)) is.2 h

  pub by_instant : (c : Component)
      → (is_within (unix_time d t o) ≡ true → IsRow d t o s c (stamp_field (unix_time d t o) c))
      → IfOk (on_date m.date (λ x. on_time m.time (λ y. on_offset m.offset (λ z.
      instant_field (unix_time x y z) c)))) (IsRow d t o s c)
  by_instant c h =
      of_date (IsRow d t o s c) m.date d _ is.0 (of_time (IsRow d t o s c) m.time t _ is.1
      (of_offset (IsRow d t o s c) m.offset o (λ z. instant_field (unix_time d t z) c) is.2
      (of_instant (IsRow d t o s c) (unix_time d t o) c h)))
