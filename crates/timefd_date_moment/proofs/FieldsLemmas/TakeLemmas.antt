-- Fields that are set in place, and the result of one component.
use Rattle.std.proofs.Common.{ℕ, ◌≡◌, ◌∙◌, ◌==◌, Bool, true, false, drop, Option, Some, None, Result, Ok, refl, sym, ap, subst}
use denote.Ref.{Bor}
use Rattle.timefd_lang_component.specs.Tree.{Text}
use Rattle.timefd_date_moment.specs.declared.fields.fault.FieldFault.{FieldFault}
use Rattle.timefd_date_moment.specs.declared.fields.rule.FieldRule.{FieldRule}
use Rattle.timefd_lang_component.specs.declared.component.Component.{Component}
use Rattle.timefd_date_moment.specs.declared.fields.fault.UnreadReason.TheVariants as for
use Rattle.timefd_date_moment.specs.declared.fields.fields.Amount.{Amount}
use Rattle.timefd_date_moment.specs.declared.fields.fields.Count.{Count}
use Rattle.timefd_date_moment.specs.declared.fields.fields.Fields.{Fields}
use Rattle.timefd_date_moment.specs.declared.fields.fields.Signed.{Signed}
use Rattle.timefd_date_moment.specs.declared.fields.reading.Reading.{Reading}
use Rattle.timefd_date_moment.specs.Fields.Fields.{amount, count, with_amount, with_count}
use Rattle.timefd_date_moment.specs.Fields.Inputs.{as_amount, as_count, input}
use Rattle.timefd_date_moment.specs.Fields.Readings.{Takes, amount_with, count_with, kept, same_signed, with_reading}
use Rattle.timefd_date_moment.specs.Fields.Reads.{Gives, Point, agreed, at, fault_at, read_component, taken}
use Rattle.timefd_date_moment.specs.Fields.Rules.{rule_of}

pub kept_taken : (f : Fields) (same : Bool) → Takes (kept f same) f same
kept_taken f true = refl
kept_taken f false = refl

pub count_kept : (f : Fields) (field : Count) (n before : ℕ) → Some before ≡ count f field
    → Takes (count_with f field n (count f field)) f (before == n)
count_kept f field n before e =
    subst (λ x. Takes (count_with f field n x) f (before == n)) e (kept_taken f (before == n))

pub count_set : (f : Fields) (field : Count) (n : ℕ) → None ≡ count f field
    → Takes (count_with f field n (count f field)) (with_count f field n) true
count_set f field n e = sym (ap (count_with f field n) e)

pub amount_kept : (f : Fields) (field : Amount) (n before : Signed) → Some before ≡ amount f field
    → Takes (amount_with f field n (amount f field)) f (same_signed before n)
amount_kept f field n before e =
    subst (λ x. Takes (amount_with f field n x) f (same_signed before n)) e
    (kept_taken f (same_signed before n))

pub amount_set : (f : Fields) (field : Amount) (n : Signed) → None ≡ amount f field
    → Takes (amount_with f field n (amount f field)) (with_amount f field n) true
amount_set f field n e = sym (ap (amount_with f field n) e)

-- a component, by its rule

pub by_rule : (c : Component) (p : Point) (rule : FieldRule) (read : Option (Reading × ℕ)) (new : Fields)
    (r : Result (Bor Text) FieldFault) → rule ≡ rule_of c → read ≡ input rule p.rest
    → Gives (taken c p read) new r → Gives (read_component c p) new r
by_rule c p rule read new r is reads gives =
    subst (λ x. Gives (taken c p (input x p.rest)) new r) is
    (subst (λ x. Gives (taken c p x) new r) reads gives)

pub rule_read : (c : Component) (p : Point) (rule : FieldRule) (reading : Reading) (len : ℕ) (fields : Fields)
    → input rule p.rest ≡ Some (reading, len) → with_reading p.fields reading ≡ Some fields
    → taken c p (input rule p.rest) ≡ Ok (at (drop len p.rest) fields)
rule_read c p rule reading len fields i w = ap (taken c p) i ∙ ap (agreed c p len) w

pub rule_contradicts : (c : Component) (p : Point) (rule : FieldRule) (reading : Reading) (len : ℕ)
    → input rule p.rest ≡ Some (reading, len) → with_reading p.fields reading ≡ None
    → taken c p (input rule p.rest) ≡ fault_at p (for.Contradiction c)
rule_contradicts c p rule reading len i w = ap (taken c p) i ∙ ap (agreed c p len) w

pub rule_unread : (c : Component) (p : Point) (rule : FieldRule) → input rule p.rest ≡ None
    → taken c p (input rule p.rest) ≡ fault_at p (for.Unread c)
rule_unread c p rule i = ap (taken c p) i

-- a number that was found

pub count_read : (c : Component) (p : Point) (field : Count) (n len : ℕ) (fields : Fields)
    → count_with p.fields field n (count p.fields field) ≡ Some fields
    → taken c p (as_count field (Some (n, len))) ≡ Ok (at (drop len p.rest) fields)
count_read c p field n len fields w = ap (agreed c p len) w

pub count_contradicts : (c : Component) (p : Point) (field : Count) (n len : ℕ)
    → count_with p.fields field n (count p.fields field) ≡ None
    → taken c p (as_count field (Some (n, len))) ≡ fault_at p (for.Contradiction c)
count_contradicts c p field n len w = ap (agreed c p len) w

pub amount_read : (c : Component) (p : Point) (field : Amount) (n : Signed) (len : ℕ) (fields : Fields)
    → amount_with p.fields field n (amount p.fields field) ≡ Some fields
    → taken c p (as_amount field (Some (n, len))) ≡ Ok (at (drop len p.rest) fields)
amount_read c p field n len fields w = ap (agreed c p len) w

pub amount_contradicts : (c : Component) (p : Point) (field : Amount) (n : Signed) (len : ℕ)
    → amount_with p.fields field n (amount p.fields field) ≡ None
    → taken c p (as_amount field (Some (n, len))) ≡ fault_at p (for.Contradiction c)
amount_contradicts c p field n len w = ap (agreed c p len) w
