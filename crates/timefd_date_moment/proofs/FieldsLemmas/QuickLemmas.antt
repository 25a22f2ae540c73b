-- Numbers that are taken at once.
use Rattle.std.proofs.Common.{ℕ, ◌≡◌, ◌∙◌, ◌≤◌, ◌+◌, ◌&&◌, Bool, true, false, nat_le, length, Option, Some, None, refl, sym, ap, subst, arith}
use Rattle.std.proofs.lemmas.Bool.{le-leb}
use Rattle.timefd_modifier.specs.declared.enums.Padding.{Padding}
use Rattle.timefd_lang_component.specs.declared.component.Component.{Component}
use Rattle.timefd_lang_component.specs.declared.component.Component.TheVariants.{Month, Weekday, WeekNumber, Hour, UnixTimestamp, Year}
use Rattle.timefd_lang_component.specs.Modern.{modern}
use Rattle.timefd_lang_component.specs.Tree.{Text}
use Rattle.timefd_date_moment.specs.declared.fields.fields.Amount.{Amount}
use Rattle.timefd_date_moment.specs.declared.fields.fields.Count.{Count}
use Rattle.timefd_date_moment.specs.declared.fields.fields.Fields.{Fields}
use Rattle.timefd_date_moment.specs.declared.fields.fields.Signed.{Signed}
use Rattle.timefd_date_moment.specs.declared.fields.reading.Reading.TheVariants as reads
use Rattle.timefd_date_moment.specs.declared.fields.rule.NameList.{NameList}
use Rattle.timefd_date_moment.specs.declared.fields.rule.NumberForm.{NumberForm}
use Rattle.timefd_date_moment.specs.declared.fields.rule.FieldRule.TheVariants as by
use Rattle.timefd_date_moment.specs.Fields.Fields.{amount, count}
use Rattle.timefd_date_moment.specs.Fields.Inputs.{as_amount, as_count, as_name, input, name}
use Rattle.timefd_date_moment.specs.Fields.Names.{listed, name_from}
use Rattle.timefd_date_moment.specs.Fields.Numbers.{digits, padded, sign_in, signed, signed_by, with_sign, within}
use Rattle.timefd_date_moment.specs.Fields.Readings.{amount_with, count_with}
use Rattle.timefd_date_moment.specs.Fields.Reads.{TakesFront}
use Rattle.timefd_date_moment.specs.Fields.Rules.{IsFour, rule_of}

-- A component with one of these rules is modern.

number_is_modern : (c : Component) (field : Count) (p : Padding) (w l h : ℕ)
    → by.Number field p w l h ≡ rule_of c → modern c ≡ c
number_is_modern (Month m) field p w l h e = absurd cc
number_is_modern (Weekday m) field p w l h e = absurd cc
number_is_modern (WeekNumber m) field p w l h e = absurd cc
number_is_modern (Hour m) field p w l h e = absurd cc
number_is_modern (UnixTimestamp m) field p w l h e = absurd cc
number_is_modern (Year m) field p w l h e = absurd cc
number_is_modern _ field p w l h e = refl

signed_is_modern : (c : Component) (field : Amount) (b : Bool) (form : NumberForm)
    → by.Signed field b form ≡ rule_of c → modern c ≡ c
signed_is_modern (Month m) field b form e = absurd cc
signed_is_modern (Weekday m) field b form e = absurd cc
signed_is_modern (WeekNumber m) field b form e = absurd cc
signed_is_modern (Hour m) field b form e = absurd cc
signed_is_modern (UnixTimestamp m) field b form e = absurd cc
signed_is_modern (Year m) field b form e = absurd cc
signed_is_modern _ field b form e = refl

name_is_modern : (c : Component) (field : Count) (names : NameList) (b : Bool) (first : ℕ)
    → by.Name field names b first ≡ rule_of c → modern c ≡ c
name_is_modern (Month m) field names b first e = absurd cc
name_is_modern (Weekday m) field names b first e = absurd cc
name_is_modern (WeekNumber m) field names b first e = absurd cc
name_is_modern (Hour m) field names b first e = absurd cc
name_is_modern (UnixTimestamp m) field names b first e = absurd cc
name_is_modern (Year m) field names b first e = absurd cc
name_is_modern _ field names b first e = refl

pub by_number : (c : Component) (field : Count) (l h : ℕ) (text : Text) (old new : Fields) (r : Option ℕ)
    → by.Number field Padding.Zero 2 l h ≡ rule_of c
    → TakesFront (as_count field (within l h (digits 2 2 text))) text old new r
    → TakesFront (input (rule_of (modern c)) text) text old new r
by_number c field l h text old new r is takes =
    subst (λ rule. TakesFront (input rule text) text old new r)
    (is ∙ ap rule_of (sym (number_is_modern c field Padding.Zero 2 l h is))) takes

pub by_sign : (c : Component) (field : Amount) (form : NumberForm) (text : Text) (old new : Fields) (r : Option ℕ)
    → by.Signed field false form ≡ rule_of c
    → TakesFront (as_amount field (signed false form text)) text old new r
    → TakesFront (input (rule_of (modern c)) text) text old new r
by_sign c field form text old new r is takes =
    subst (λ rule. TakesFront (input rule text) text old new r)
    (is ∙ ap rule_of (sym (signed_is_modern c field false form is))) takes

pub by_name : (c : Component) (field : Count) (names : NameList) (b : Bool) (first : ℕ) (text : Text) (old new : Fields)
    (r : Option ℕ) → by.Name field names b first ≡ rule_of c
    → TakesFront (name field names b first text) text old new r
    → TakesFront (input (rule_of (modern c)) text) text old new r
by_name c field names b first text old new r is takes =
    subst (λ rule. TakesFront (input rule text) text old new r)
    (is ∙ ap rule_of (sym (name_is_modern c field names b first is))) takes

-- The number that was found is in the range.
inside : (l h n len : ℕ) → l ≤ n → n ≤ h → within l h (Some (n, len)) ≡ Some (n, len)
inside l h n len low high = rw (le-leb l n low) (rw (le-leb n h high) refl)

pub number_inside : (l h n : ℕ) (text : Text) → digits 2 2 text ≡ Some (n, 2) → l ≤ n → n ≤ h
    → within l h (digits 2 2 text) ≡ Some (n, 2)
number_inside l h n text found low high = ap (λ x. within l h x) found ∙ inside l h n 2 low high

pub two_taken : (field : Count) (l h n : ℕ) (text : Text) (old new : Fields)
    → digits 2 2 text ≡ Some (n, 2) → 2 ≤ length text → l ≤ n → n ≤ h
    → count_with old field n (count old field) ≡ Some new
    → TakesFront (as_count field (within l h (digits 2 2 text))) text old new (Some 2)
two_taken field l h n text old new found long low high takes = (
  reads.Count field n,
  ap (λ x. as_count field (within l h x)) found ∙ ap (as_count field) (inside l h n 2 low high),
  takes,
  long,
)

-- The four digits of a form with four digits.
pub four_taken : (field : Amount) (form : NumberForm) (n : ℕ) (text : Text) (old new : Fields)
    → IsFour form → digits 4 4 text ≡ Some (n, 4) → sign_in text ≡ None → 4 ≤ length text → n ≤ form.greatest
    → amount_with old field (record { is_negative = false; magnitude = n })
    (amount old field) ≡ Some new
    → TakesFront (as_amount field (signed false form text)) text old new (Some 4)
four_taken field form n text old new four found none long low takes =
    let read : signed false form text ≡ Some (record { is_negative = false; magnitude = n }, 4) =
    ap (λ s. signed_by s false form text) none
    ∙ (λ i. with_sign false (within 0 form.greatest (padded (four.0 i) (four.1 i) (four.2 i) text)))
    ∙ ap (λ x. with_sign false (within 0 form.greatest x)) found
    ∙ ap (with_sign false) (inside 0 form.greatest n 4 (omega arith) low) in (
      reads.Amount field (record { is_negative = false; magnitude = n }),
      ap (as_amount field) read,
      takes,
      long,
    )

-- The name that was found has this index in its list.
pub name_taken : (field : Count) (names : NameList) (b : Bool) (first index len : ℕ) (text : Text) (old new : Fields)
    → name_from 0 b (listed names) text ≡ Some (index, len) → len ≤ length text
    → count_with old field (first + index) (count old field) ≡ Some new
    → TakesFront (name field names b first text) text old new (Some len)
name_taken field names b first index len text old new found long takes = (
  reads.Count field (first + index),
  ap (as_name field first) found,
  takes,
  long,
)
