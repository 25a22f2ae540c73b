-- What is known about a result, and about the fields that are read with one more part.
use Rattle.std.proofs.Common.{ℕ, ◌≡◌, ◌%◌, ◌==◌, Bool, true, false, if◌then◌else◌, length, Option, Some, None}
use Rattle.std.proofs.Common.{Result, Ok, Err, refl, ap, subst, is_ok}
use Rattle.std.specs.Prelude.{⊤}
use Rattle.std.proofs.lemmas.Option.{none-some, same_Some}
use Rattle.timefd_lang_component.specs.declared.component.Component.{Component}
use Rattle.timefd_modifier.specs.declared.enums.TrailingInput.{TrailingInput}
use Rattle.timefd_date_moment.specs.declared.fields.fields.Fields.{Fields}
use Rattle.timefd_date_moment.specs.declared.fields.fields.Fraction.{Fraction}
use Rattle.timefd_date_moment.specs.Fields.Inputs.{end}
use Rattle.timefd_date_moment.specs.Fields.Readings.{kept, unit}
use Rattle.timefd_date_moment.specs.Fields.Reads.{Point, agreed, taken}
use Rattle.timefd_date_moment.proofs.ReadingLemmas.ShownLemmas.{clash}
use Rattle.timefd_laws.proofs.ReadingLemmas.RowLemmas.{merged}

-- results

abbrev pub in_ok : {A E : Type 0} → A → Result A E → A
in_ok a (Ok b) = b
in_ok a (Err e) = a

abbrev fields_in : {E : Type 0} → Fields → Result Point E → Fields
fields_in f (Ok p) = p.fields
fields_in f (Err e) = f

-- everything after the known digits of a second is 0
abbrev pub IsWhole : Option Fraction → Type 0
IsWhole None = ⊤
IsWhole (Some f) = f.nanosecond % unit f.digits ≡ 0

-- If something was read, it was found.
pub either_took : {B E : Type 0} (g : Option B → Result Point E) (x : Option B) (b : Bool) (q : Point)
    → g (if b then x else None) ≡ Ok q → (P : Type 0) → is_ok (g None) ≡ false → (g x ≡ Ok q → P) → P
either_took g x true q e P none k = k e
either_took g x false q e P none k = absurd (clash (is_ok (g None)) none (ap is_ok e))

-- what is read agrees with what was read before
pub agreed_is : (c : Component) (p q : Point) (len : ℕ) (r : Option Fields) → agreed c p len r ≡ Ok q
    → r ≡ Some q.fields
agreed_is c p q len None e = absurd cc
agreed_is c p q len (Some f) e = ap (λ r. Some (fields_in f r)) e

-- A field that is read twice has the same value, so the fields stay. Otherwise the field is set.
pub merged_is : {A : Type 0} (P : Fields → Type 0) (is_same : A → A → Bool) (f g : Fields) (set : A → Fields) (n : A)
    (before found : Option A) → (before ≡ None → P (set n)) → ((a : A) → before ≡ Some a → is_same a n ≡ true → P f)
    → before ≡ found → merged is_same f set n found ≡ Some g → P g
merged_is P is_same f g set n before None first again is e = subst P (same_Some (set n) g e) (first is)
merged_is P is_same f g set n before (Some a) first again is e = by (is_same a n) refl e
  where
    by : (b : Bool) → is_same a n ≡ b → kept f b ≡ Some g → P g
    by true same e = subst P (same_Some f g e) (again a is same)
    by false same e = absurd (none-some g e)

-- a component without a field: the fields stay

pub nothing_kept : (c : Component) (p q : Point) (len : ℕ) → agreed c p len (Some p.fields) ≡ Ok q
    → p.fields ≡ q.fields
nothing_kept c p q len e = same_Some p.fields q.fields (agreed_is c p q len (Some p.fields) e)

pub end_kept : (c : Component) (p q : Point) (trailing : TrailingInput) → taken c p (end trailing p.rest) ≡ Ok q
    → p.fields ≡ q.fields
end_kept c p q TrailingInput.Prohibit e =
    either_took (taken c p) _ (length p.rest == 0) q e (p.fields ≡ q.fields) refl (λ h. nothing_kept c p q 0 h)
end_kept c p q TrailingInput.Discard e = nothing_kept c p q (length p.rest) e
