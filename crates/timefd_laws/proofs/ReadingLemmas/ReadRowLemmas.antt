-- What is known about the fields after a component was read.
use Rattle.std.proofs.Common.{ℕ, ◌≡◌, ◌∙◌, ◌≤◌, ◌+◌, ◌&&◌, ◌==◌, Bool, true, false, nat_le, drop, if◌then◌else◌, Option}
use Rattle.std.proofs.Common.{Some, None}
use Rattle.std.proofs.Common.{Ok, refl, sym, ap, subst}
use Rattle.std.specs.Prelude.{is_some, ⊤}
use Rattle.std.proofs.lemmas.Bool.{cond_both, eqb-true, leb-true}
use Rattle.timefd_lang_component.specs.declared.component.Component.{Component}
use Rattle.timefd_lang_component.specs.Tree.{Text}
use Rattle.timefd_date_format.specs.Kinds.{Kind}
use Rattle.timefd_modifier.specs.declared.enums.Padding.{Padding}
use Rattle.timefd_date_moment.specs.declared.fields.fields.Fields.{Fields}
use Rattle.timefd_date_moment.specs.declared.fields.fields.Signed.{Signed}
use Rattle.timefd_date_moment.specs.Fields.Fields.{amount as amount_of, count as count_of}
use Rattle.timefd_date_moment.specs.Fields.Inputs.{as_amount, as_count, as_name}
use Rattle.timefd_date_moment.specs.Fields.Numbers.{after, padded, signed_by, within}
use Rattle.timefd_date_moment.specs.Fields.Numbers as numbers
use Rattle.timefd_date_moment.specs.Fields.Readings.{amount_with, count_with, same, same_signed}
use Rattle.timefd_date_moment.specs.Fields.Reads.{Point, agreed, taken}
use Rattle.timefd_date_moment.proofs.ReadingLemmas.ShownLemmas.{clash}
use Rattle.timefd_date_moment.proofs.ReadingLemmas.YearLemmas.{both}
use Rattle.timefd_laws.specs.Reading.Again.{parts}
use Rattle.timefd_laws.specs.Reading.Shown.{Shows}
use Rattle.timefd_laws.proofs.ReadingLemmas.GrowLemmas.{Grows, InRange, IsAtMost, Knows, Range, any, kind_more, same_grows, years}
use Rattle.timefd_laws.proofs.ReadingLemmas.GrowLemmas.{has_kind}
use Rattle.timefd_laws.proofs.ReadingLemmas.PositionLemmas.{IsAt, WriteCursor}
use Rattle.timefd_laws.proofs.ReadingLemmas.RowLemmas.{equal, merged}
use Rattle.timefd_laws.proofs.ReadingLemmas.StepLemmas.{IsWhole, agreed_is, merged_is}

-- The parts are these, a fraction stays whole, and everything that was known stays known. Something of this
-- kind and in this range was read.
pub record Leaves (s : Shows) (k : Kind) (r : Range) (f g : Fields) : Type 0 where
  pub with_parts : parts g ≡ s
  pub stays_whole : IsWhole f.subsecond → IsWhole g.subsecond
  pub grows : Grows f g
  pub knows : Knows k r g

-- what was read is in the range

abbrev pub IsWithin : ℕ → Option (Signed × ℕ) → Type 0
IsWithin greatest None = ⊤
IsWithin greatest (Some r) = r.0.magnitude ≤ greatest

within_greatest : (negative : Bool) (greatest k : ℕ) (r : Option (ℕ × ℕ))
    → IsWithin greatest (numbers.with_sign negative (after k (within 0 greatest r)))
within_greatest negative greatest k None = tt
within_greatest negative greatest k (Some r) =
    cond_both (nat_le 0 r.0 && nat_le r.0 greatest) (Some r) None
    (λ x. IsWithin greatest (numbers.with_sign negative (after k x)))
    (λ e. leb-true r.0 greatest (both (nat_le 0 r.0) (nat_le r.0 greatest) e).1) (λ e. tt)

within_alone : (negative : Bool) (greatest : ℕ) (r : Option (ℕ × ℕ))
    → IsWithin greatest (numbers.with_sign negative (within 0 greatest r))
within_alone negative greatest None = tt
within_alone negative greatest (Some r) =
    cond_both (nat_le 0 r.0 && nat_le r.0 greatest) (Some r) None
    (λ x. IsWithin greatest (numbers.with_sign negative x))
    (λ e. leb-true r.0 greatest (both (nat_le 0 r.0) (nat_le r.0 greatest) e).1) (λ e. tt)

pub signed_within : (padding : Padding) (w m s greatest : ℕ) (sign : Option Bool) (mandatory : Bool) (text : Text)
    → IsWithin greatest (signed_by sign mandatory
    (record { padding = padding; width = w; most = m; most_signed = s; greatest = greatest }) text)
signed_within padding w m s greatest (Some negative) mandatory text =
    within_greatest negative greatest 1 (padded padding w s (drop 1 text))
signed_within padding w m s greatest None true text = tt
signed_within padding w m s greatest None false text = within_alone false greatest (padded padding w m text)

if_true : (b c : Bool) → (if b then c else false) ≡ true → c ≡ true
if_true true c e = e
if_true false c e = absurd (clash true (sym e) refl)

-- a field that was read
module _ {A : Type 0} (position : WriteCursor A) (p q : Point) where
  -- the fields with one more part, that of this field
  abbrev pub Placed : Range → Type 0
  Placed r = Leaves (position.put_in (parts p.fields) true) position.kind r p.fields q.fields

  pub placed : (c : Component) (is_same : A → A → Bool) (r : Range) (len : ℕ) (n : A)
      → InRange r (years (position.set p.fields n))
      → ((a : A) → position.get p.fields ≡ Some a → is_same a n ≡ true → InRange r (years p.fields))
      → agreed c p len (merged is_same p.fields (position.set p.fields) n (position.get p.fields)) ≡ Ok q → Placed r
  placed c is_same r len n new old e =
      let f = p.fields in
      let is = position.is_set f n in
      let here : has_kind position.kind (position.set f n) ≡ true = position.known (position.set f n) (ap is_some is.0) in
      merged_is (λ (g : Fields). Leaves (position.put_in (parts f) true) position.kind r f g) is_same f q.fields
      (position.set f) n (position.get f) (position.get f)
      (λ none. record {
        with_parts = is.2;
        stays_whole = λ h. subst IsWhole (sym is.4) h;
        grows = record {
          kind = kind_more position.kind f (position.set f n) here is.1;
          range = position.range f n none;
        };
        knows = record { kind = here; range = new };
      })
      (λ a found same. record {
        with_parts = is.3 ∙ ap (λ (x : Option A). position.put_in (parts f) (is_some x)) found;
        stays_whole = λ h. h;
        grows = same_grows f;
        knows = record { kind = position.known f (ap is_some found); range = old a found same };
      }) refl (agreed_is c p q len (merged is_same f (position.set f) n (position.get f)) e)

-- A number without a sign, and a name. The type of a field's name is private, so its use decides it.
module _ (position : WriteCursor ℕ) (c : Component) (p q : Point) where
  pub count : (field : _) (x : Option (ℕ × ℕ)) → IsAt equal count_with count_of field position
      → taken c p (as_count field x) ≡ Ok q → Placed position p q any
  count field None is e = absurd cc
  count field (Some r) is e =
      placed position p q c equal any r.1 r.0 tt (λ a found same. tt) (sym (ap (agreed c p r.1) (is p.fields r.0)) ∙ e)

  pub name : (field : _) (first : ℕ) (x : Option (ℕ × ℕ)) → IsAt equal count_with count_of field position
      → taken c p (as_name field first x) ≡ Ok q → Placed position p q any
  name field first None is e = absurd cc
  name field first (Some r) is e =
      placed position p q c equal any r.1 (first + r.0) tt (λ a found same. tt)
      (sym (ap (agreed c p r.1) (is p.fields (first + r.0))) ∙ e)

-- a number with a sign
module _ (position : WriteCursor Signed) (c : Component) (p q : Point) where
  same_magnitude : (a b : Signed) → same_signed a b ≡ true → b.magnitude ≡ a.magnitude
  same_magnitude a b e =
      sym (eqb-true a.magnitude b.magnitude
      (if_true (same a.is_negative b.is_negative) (a.magnitude == b.magnitude) e))

  pub amount : (field : _) (x : Option (Signed × ℕ)) → IsAt same_signed amount_with amount_of field position
      → taken c p (as_amount field x) ≡ Ok q → Placed position p q any
  amount field None is e = absurd cc
  amount field (Some r) is e =
      placed position p q c same_signed any r.1 r.0 tt (λ a found same. tt)
      (sym (ap (agreed c p r.1) (is p.fields r.0)) ∙ e)

  -- a year, or a part of a year, that is no greater than this
  pub year : (field : _) (r : Range) (greatest : ℕ) (x : Option (Signed × ℕ)) → IsWithin greatest x
      → ((f : Fields) → IsAtMost greatest (position.get f) → InRange r (years f))
      → IsAt same_signed amount_with amount_of field position → taken c p (as_amount field x) ≡ Ok q → Placed position p q r
  year field r greatest None within into is e = absurd cc
  year field r greatest (Some x) within into is e =
      placed position p q c same_signed r x.1 x.0
      (into (position.set p.fields x.0)
      (subst (IsAtMost greatest) (sym (position.is_set p.fields x.0).0) within))
      (λ a found same. into p.fields (subst (IsAtMost greatest) (sym found)
      (subst (λ (m : ℕ). m ≤ greatest) (same_magnitude a x.0 same) within)))
      (sym (ap (agreed c p x.1) (is p.fields x.0)) ∙ e)
