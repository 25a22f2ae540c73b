-- Numbers that are read without fields.
use Rattle.std.proofs.Common.{ℕ, ◌≡◌, ◌∙◌, ◌≤◌, ◌==◌, Bool, false, if◌then◌else◌, [], ◌∷◌, length, drop, Option, Some, None, Result, Ok, Err, refl, sym, ap, subst}
use Rattle.timefd_modifier.specs.declared.enums.Padding.{Padding}
use Rattle.timefd_lang_component.specs.declared.component.Component.{Component}
use Rattle.timefd_lang_component.specs.Modern.{modern}
use Rattle.timefd_lang_component.specs.Tree.{Text, Trees, compound, component}
use Rattle.timefd_date_moment.specs.declared.fields.fault.FieldFault.{FieldFault}
use Rattle.timefd_date_moment.specs.declared.fields.fields.Amount.{Amount}
use Rattle.timefd_date_moment.specs.declared.fields.fields.Count.{Count}
use Rattle.timefd_date_moment.specs.declared.fields.fields.Fields.{Fields}
use Rattle.timefd_date_moment.specs.declared.fields.reading.Reading.{Reading}
use Rattle.timefd_date_moment.specs.declared.fields.reading.Reading.TheVariants as reads
use Rattle.timefd_date_moment.specs.declared.fields.rule.NameList.{NameList}
use Rattle.timefd_date_moment.specs.declared.fields.rule.NumberForm.{NumberForm}
use Rattle.timefd_date_moment.specs.declared.fields.rule.FieldRule.TheVariants as by
use Rattle.timefd_date_moment.specs.declared.fields.short.Numbers.{Numbers}
use Rattle.timefd_date_moment.specs.Fields.Fields.{count}
use Rattle.timefd_date_moment.specs.Fields.Inputs.{as_amount, as_count, input, name}
use Rattle.timefd_date_moment.specs.Fields.Numbers.{digits, signed, within}
use Rattle.timefd_date_moment.specs.Fields.Readings.{count_with, with_reading}
use Rattle.timefd_date_moment.specs.Fields.Reads.{Point, TakesFront, agreed, at, ended, fields_of, read, read_all, start, taken, whole}
use Rattle.timefd_date_moment.specs.Fields.Rules.{rule_of}
use Rattle.timefd_date_moment.specs.Fields.Short.{TakesNumber, fields_with}
use Rattle.timefd_date_moment.proofs.FieldsLemmas.QuickLemmas as quick

-- A number of two digits that is in the range is taken.
pub two_shown : (field : Count) (l h n : ℕ) (text : Text) (old new : Numbers)
    → within l h (digits 2 2 text) ≡ Some (n, 2) → 2 ≤ length text
    → count_with (fields_with old) field n (count (fields_with old) field) ≡ Some (fields_with new)
    → TakesNumber (as_count field (within l h (digits 2 2 text))) text old (Some (2, new))
two_shown field l h n text old new found long takes =
    (reads.Count field n, ap (λ x. as_count field x) found, takes, long)

pub number_by : (c : Component) (field : Count) (l h : ℕ) (text : Text) (old : Numbers) (r : Option (ℕ × Numbers))
    → by.Number field Padding.Zero 2 l h ≡ rule_of c
    → TakesNumber (as_count field (within l h (digits 2 2 text))) text old r
    → TakesNumber (input (rule_of (modern c)) text) text old r
number_by c field l h text old None is takes = tt
number_by c field l h text old (Some r) is takes =
    quick.by_number c field l h text (fields_with old) (fields_with r.1) (Some r.0) is takes

pub month_by : (c : Component) (names : NameList) (b : Bool) (text : Text) (old : Numbers) (r : Option (ℕ × Numbers))
    → by.Name Count.Month names b 1 ≡ rule_of c → TakesNumber (name Count.Month names b 1 text) text old r
    → TakesNumber (input (rule_of (modern c)) text) text old r
month_by c names b text old None is takes = tt
month_by c names b text old (Some r) is takes =
    quick.by_name c Count.Month names b 1 text (fields_with old) (fields_with r.1) (Some r.0) is takes

pub sign_by : (c : Component) (form : NumberForm) (text : Text) (old : Numbers) (r : Option (ℕ × Numbers))
    → by.Signed Amount.Year false form ≡ rule_of c
    → TakesNumber (as_amount Amount.Year (signed false form text)) text old r
    → TakesNumber (input (rule_of (modern c)) text) text old r
sign_by c form text old None is takes = tt
sign_by c form text old (Some r) is takes =
    quick.by_sign c Amount.Year form text (fields_with old) (fields_with r.1) (Some r.0) is takes

-- A component that was taken was read.
pub component_read : (c : Component) (text : Text) (old : Numbers) (r : ℕ × Numbers)
    → TakesNumber (input (rule_of (modern c)) text) text old (Some r)
    → read (component c) (at text (fields_with old)) ≡ Ok (at (drop r.0 text) (fields_with r.1))
component_read c text old r takes =
    ap (taken (modern c) (at text (fields_with old))) takes.1
    ∙ ap (agreed (modern c) (at text (fields_with old)) r.0) takes.2

pub component_within : (c : Component) (text : Text) (old : Numbers) (r : ℕ × Numbers)
    → TakesNumber (input (rule_of (modern c)) text) text old (Some r) → r.0 ≤ length text
component_within c text old r takes = takes.3

-- All of the text is read.
pub all_read : (ts : Trees) (text rest : Text) (fields : Fields) → Ok (at rest fields) ≡ read_all ts (start text)
    → rest ≡ [] → fields_of (compound ts) text ≡ Ok fields
all_read ts text rest fields is none =
    ap (whole (length text)) (sym is) ∙ ap (λ r. ended (length text) r fields) none
