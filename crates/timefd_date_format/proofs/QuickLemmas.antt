-- What a component shows if its part of the moment is known.
use Rattle.std.proofs.Common.{ℕ, ◌≡◌, ◌∙◌, ◌-◌, ◌/◌, ◌%◌, ◌<◌, ◌≤◌, nat_lt, nat_le, if◌then◌else◌, true, false, ◌++◌, Option, Some, Ok, Err, sym, ap, subst, arith}
use Rattle.timefd_modifier.specs.declared.enums.Padding.{Padding}
use Rattle.timefd_lang_component.specs.declared.component.Component.{Component}
use Rattle.timefd_lang_component.specs.Modern.{modern}
use Rattle.timefd_lang_component.specs.Tree.{Text}
use Rattle.timefd_date_moment.specs.declared.date.Date.{Date}
use Rattle.timefd_date_moment.specs.declared.time.Time.{Time}
use Rattle.timefd_date_moment.specs.declared.offset.UtcOffset.{UtcOffset}
use Rattle.timefd_date_moment.specs.declared.moment.Moment.{Moment}
use Rattle.timefd_date_format.specs.Kinds as of
use Rattle.timefd_date_format.specs.Fields.{by_kind, date_field, kind, offset_field, on_date, on_offset, on_time, signed, time_field, year}
use Rattle.timefd_date_format.specs.Puts.{pair}
use Rattle.timefd_date_format.specs.Written.{shown, text_of}
use Rattle.timefd_date_moment.specs.Moments.{magnitude}
use Rattle.timefd_date_format.specs.declared.field.Lack.TheVariants as lack
use Rattle.timefd_date_format.specs.Appends.{TriesToAppend}
use Rattle.timefd_date_format.proofs.FilledLemmas.{four}
use Rattle.std.proofs.lemmas.Bool.Decides.{nat_tests}

pub of_date : (m : Moment) (c e : Component) (d : Date) (old new : Text) (at : ℕ) (r : Option ℕ) → c ≡ e
    → kind (modern e) ≡ of.Date → m.date ≡ Some d
    → TriesToAppend (text_of (modern e) (date_field d (modern e))) old at new r → TriesToAppend (shown m c) old at new r
of_date m c e d old new at r is k has put =
    subst (λ x. TriesToAppend x old at new r)
    (sym (ap (shown m) is ∙ ap (λ x. text_of (modern e) (by_kind x m (modern e))) k
    ∙ ap (λ x. text_of (modern e) (on_date x (λ y. date_field y (modern e)))) has)) put

pub of_time : (m : Moment) (c e : Component) (t : Time) (old new : Text) (at : ℕ) (r : Option ℕ) → c ≡ e
    → kind (modern e) ≡ of.Time → m.time ≡ Some t
    → TriesToAppend (text_of (modern e) (Ok (time_field t (modern e)))) old at new r → TriesToAppend (shown m c) old at new r
of_time m c e t old new at r is k has put =
    subst (λ x. TriesToAppend x old at new r)
    (sym (ap (shown m) is ∙ ap (λ x. text_of (modern e) (by_kind x m (modern e))) k
    ∙ ap (λ x. text_of (modern e) (on_time x (λ y. Ok (time_field y (modern e))))) has)) put

pub of_offset : (m : Moment) (c e : Component) (o : UtcOffset) (old new : Text) (at : ℕ) (r : Option ℕ) → c ≡ e
    → kind (modern e) ≡ of.Offset → m.offset ≡ Some o
    → TriesToAppend (text_of (modern e) (Ok (offset_field o (modern e)))) old at new r → TriesToAppend (shown m c) old at new r
of_offset m c e o old new at r is k has put =
    subst (λ x. TriesToAppend x old at new r)
    (sym (ap (shown m) is ∙ ap (λ x. text_of (modern e) (by_kind x m (modern e))) k
    ∙ ap (λ x. text_of (modern e) (on_offset x (λ y. Ok (offset_field y (modern e))))) has)) put

-- A year from 0 to 9999, shown without a sign.
year_is : (c : Component) (greatest years : ℕ) → 9999 ≤ greatest → 1000000 ≤ years → years < 1010000
    → text_of c (year greatest 4 1 Padding.Zero false years)
    ≡ Ok (pair ((years - 1000000) / 100) ++ pair ((years - 1000000) % 100))
year_is c greatest years enough low high =
    let after : nat_lt years 1000000 ≡ false = grind (arith, nat_tests) in
    let short : nat_le 10000 (years - 1000000) ≡ false = grind (arith, nat_tests) in
    let within : nat_le (years - 1000000) greatest ≡ true = grind (arith, nat_tests) in
    let one : (years - 1000000) / 1 ≡ years - 1000000 = omega arith in
    let size : magnitude years ≡ years - 1000000 = (λ i. if after i then 1000000 - years else years - 1000000) in
    ap (λ n. text_of c (if nat_le n greatest then Ok (signed (nat_lt years 1000000) (nat_le 10000 n) Padding.Zero 4 (n / 1)) else Err lack.YearTooLong)) size
    ∙ (λ i. text_of c (if within i then Ok (signed (after i) (short i) Padding.Zero 4 (one i)) else Err lack.YearTooLong))
    ∙ ap Ok (four (years - 1000000) (omega (arith, high)))

pub year_appended : (c : Component) (greatest years : ℕ) (old new : Text) (at end : ℕ) → 9999 ≤ greatest
    → 1000000 ≤ years → years < 1010000
    → TriesToAppend (Ok (pair ((years - 1000000) / 100) ++ pair ((years - 1000000) % 100))) old at new (Some end)
    → TriesToAppend (text_of c (year greatest 4 1 Padding.Zero false years)) old at new (Some end)
year_appended c greatest years old new at end enough low high put =
    subst (λ x. TriesToAppend x old at new (Some end)) (sym (year_is c greatest years enough low high)) put
