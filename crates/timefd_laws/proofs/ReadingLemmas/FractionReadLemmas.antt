-- The fields after a fraction was read.
use Rattle.std.proofs.Common.{ℕ, ◌≡◌, ◌∙◌, ◌*◌, ◌%◌, nat_le, min, Bool, true, false, if◌then◌else◌, take, Option, Some, None}
use Rattle.std.proofs.Common.{Ok, refl, ap, subst, arith}
use Rattle.std.specs.Prelude.{⊤}
use Rattle.std.proofs.Math.Nat.{mod-one, mul-mod_left}
use Rattle.std.proofs.lemmas.Bool.{cond_both, leb-true}
use Rattle.std.proofs.lemmas.Option.{cond_some, same_Some}
use Rattle.std.specs.Char.{is_ascii_digit}
use Rattle.std.specs.List.{prefix_len}
use Rattle.std.specs.Str.Parse.{digits_value}
use Rattle.timefd_lang_component.specs.declared.component.Component.TheVariants.{Subsecond}
use Rattle.timefd_lang_component.specs.Tree.{Text}
use Rattle.timefd_date_format.specs.Kinds as kind
use Rattle.timefd_modifier.specs.declared.clock.Subsecond.{Subsecond as SubsecondFields}
use Rattle.timefd_modifier.specs.declared.enums.SubsecondDigits.{SubsecondDigits}
use Rattle.timefd_date_moment.specs.declared.fields.fields.Fields.{Fields}
use Rattle.timefd_date_moment.specs.declared.fields.fields.Fraction.{Fraction}
use Rattle.timefd_date_moment.specs.Fields.Inputs.{as_fraction, digits_shown, fraction, least_digits}
use Rattle.timefd_date_moment.specs.Fields.Numbers.{digits}
use Rattle.timefd_date_moment.specs.Fields.Readings.{agree, finer, fraction_with, unit, with_fraction}
use Rattle.timefd_date_moment.specs.Fields.Reads.{Point, taken}
use Rattle.timefd_date_moment.specs.Reading.Known.{has_time}
use Rattle.timefd_laws.specs.Reading.Again.{digits_of, parts}
use Rattle.timefd_laws.specs.Reading.Shown.{more_digits}
use Rattle.timefd_laws.proofs.ReadingLemmas.GrowLemmas.{any, by_subsecond, kind_more}
use Rattle.timefd_laws.proofs.ReadingLemmas.ReadRowLemmas.{Leaves}
use Rattle.timefd_laws.proofs.ReadingLemmas.StepLemmas.{IsWhole, agreed_is}

-- the finer of the fraction that is read and the one that was read before
abbrev later : Fraction → Option Fraction → Fraction
later read None = read
later read (Some before) = finer before read

later_set : (f g : Fields) (read : Fraction) (before : Option Fraction) → fraction_with f read before ≡ Some g
    → with_fraction f (later read before) ≡ g
later_set f g read None e = same_Some (with_fraction f read) g e
later_set f g read (Some before) e =
    (cond_some (agree before read) (with_fraction f (finer before read)) g e).1

either_whole : (a b : Fraction) (t : Bool) → IsWhole (Some a) → IsWhole (Some b)
    → IsWhole (Some (if t then b else a))
either_whole a b true h k = k
either_whole a b false h k = h

finer_digits : (a b : Fraction) (t : Bool) → (if t then b else a).digits ≡ (if t then b.digits else a.digits)
finer_digits a b true = refl
finer_digits a b false = refl

later_whole : (read : Fraction) (before : Option Fraction) → IsWhole (Some read) → IsWhole before
    → IsWhole (Some (later read before))
later_whole read None whole h = whole
later_whole read (Some before) whole h = either_whole before read (nat_le before.digits read.digits) h whole

later_digits : (read : Fraction) (before : Option Fraction)
    → (later read before).digits ≡ more_digits (digits_of before) read.digits
later_digits read None = refl
later_digits read (Some before) = finer_digits before read (nat_le before.digits read.digits)

-- the fields after a fraction of k digits was read
abbrev Timed : ℕ → Point → Point → Type 0
Timed k p q = Leaves (record (parts p.fields) { subsecond = Some (more_digits (digits_of p.fields.subsecond) k) })
    kind.Time any p.fields q.fields

fraction_is : (p q : Point) (read : Fraction) → IsWhole (Some read)
    → fraction_with p.fields read p.fields.subsecond ≡ Some q.fields → Timed read.digits p q
fraction_is p q read whole e =
    let before = p.fields.subsecond in
    let g = with_fraction p.fields (later read before) in
    let known : has_time g ≡ true = by_subsecond g refl in
    subst (λ (f : Fields). Timed read.digits p (record q { fields = f })) (later_set p.fields q.fields read before e)
    (record {
      with_parts = ap (λ (n : ℕ). record (parts p.fields) { subsecond = Some n }) (later_digits read before);
      stays_whole = λ h. later_whole read before whole h;
      grows = record { kind = kind_more kind.Time p.fields g known refl; range = λ r h. h };
      knows = record { kind = known; range = tt };
    })

-- the number that was found has no more than k digits after the point
abbrev HasLen : ℕ → Option (ℕ × ℕ) → Type 0
HasLen k None = ⊤
HasLen k (Some r) = r.0 * unit r.1 % unit k ≡ 0

exact_len : (k : ℕ) (text : Text) → HasLen k (digits k k text)
exact_len k text =
    let found = min k (prefix_len is_ascii_digit text) in
    let value = digits_value 10 (take found text) in
    cond_both (nat_le k found) (Some (value, found)) None (λ x. HasLen k x) (λ e.
    let all : found ≡ k = omega (arith, leb-true _ _ e) in
    ap (λ (n : ℕ). value * unit n % unit k) all ∙ mul-mod_left value (unit k)) (λ e. tt)

nine_len : (x : Option (ℕ × ℕ)) → HasLen 9 x
nine_len None = tt
nine_len (Some r) = mod-one (r.0 * unit r.1)

digits_len : (shown : SubsecondDigits) (text : Text)
    → HasLen (digits_shown shown) (digits (least_digits shown) (digits_shown shown) text)
digits_len SubsecondDigits.OneOrMore text = nine_len (digits 1 9 text)
digits_len shown text = exact_len (digits_shown shown) text

fraction_by : (c : SubsecondFields) (p q : Point) (k : ℕ) (x : Option (ℕ × ℕ)) → HasLen k x
    → taken (Subsecond c) p (as_fraction k x) ≡ Ok q → Timed k p q
fraction_by c p q k None h e = absurd cc
fraction_by c p q k (Some r) h e =
    let read : Fraction = record { digits = k; nanosecond = r.0 * unit r.1 } in
    fraction_is p q read h (agreed_is (Subsecond c) p q r.1 (fraction_with p.fields read p.fields.subsecond) e)

pub fraction_read : (c : SubsecondFields) (p q : Point) → taken (Subsecond c) p (fraction c.digits p.rest) ≡ Ok q
    → Timed (digits_shown c.digits) p q
fraction_read c p q e =
    fraction_by c p q (digits_shown c.digits) (digits (least_digits c.digits) (digits_shown c.digits) p.rest)
    (digits_len c.digits p.rest) e
