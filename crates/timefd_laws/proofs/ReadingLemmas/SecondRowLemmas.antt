-- The digits of a second are read back, and the end of a text.
use Rattle.std.proofs.Common.{ℕ, ◌≡◌, ◌∙◌, ◌≤◌, ◌*◌, ◌/◌, ◌++◌, [], length, take, Some, Ok, refl, sym, ap, subst, arith}
use Rattle.timefd_lang_component.specs.declared.component.Component.{Component}
use Rattle.timefd_lang_component.specs.declared.component.Component.TheVariants.{End, Subsecond}
use Rattle.timefd_lang_component.specs.Reserved.{digits_shown}
use Rattle.timefd_lang_component.specs.Texts.{at_least_one, filled, subsecond, trimmed}
use Rattle.timefd_lang_component.specs.Tree.{Text}
use Rattle.timefd_modifier.specs.declared.clock.Subsecond.{Subsecond as SubsecondFields}
use Rattle.timefd_modifier.specs.declared.input.End.{End as EndFields}
use Rattle.timefd_modifier.specs.declared.enums.Padding.{Padding}
use Rattle.timefd_modifier.specs.declared.enums.SubsecondDigits.{SubsecondDigits}
use Rattle.timefd_modifier.specs.declared.enums.TrailingInput.{TrailingInput}
use Rattle.timefd_date_moment.specs.declared.date.Date.{Date}
use Rattle.timefd_date_moment.specs.declared.time.Time.{Time}
use Rattle.timefd_date_moment.specs.declared.offset.UtcOffset.{UtcOffset}
use Rattle.timefd_date_moment.specs.Fields.Inputs.{as_fraction, end, fraction}
use Rattle.timefd_date_moment.specs.Fields.Numbers.{digits}
use Rattle.timefd_date_moment.specs.Fields.Readings.{unit}
use Rattle.timefd_date_moment.specs.Fields.Reads.{taken}
use Rattle.timefd_lang_warnings.specs.Settling.Bounds.{fraction_bound}
use Rattle.timefd_laws.specs.Reading.Bounds.{IsBounded}
use Rattle.timefd_laws.specs.Reading.Laws.{at}
use Rattle.timefd_laws.specs.Reading.Shown.{Shows, cut_where, fields_shown, more_digits, with_component}
use Rattle.timefd_laws.proofs.ReadingLemmas.FractionBackLemmas.{first_digits, first_value, trimmed_back, trimmed_value}
use Rattle.timefd_laws.proofs.ReadingLemmas.FractionCutLemmas.{fraction_kept}
use Rattle.timefd_laws.proofs.ReadingLemmas.RowLemmas.{after}

-- the digits of a second

module _ (d : Date) (t : Time) (o : UtcOffset) (s : Shows) where
  fraction_by : (p : SubsecondFields) (k least most : ℕ) (text rest : Text) (v : ℕ) → digits_shown p.digits ≡ k
      → digits least most (text ++ rest) ≡ Some (v, length text)
      → v * unit (length text) ≡ t.nanosecond / unit k * unit k
      → taken (Subsecond p) (at d t o s (text ++ rest)) (as_fraction k (digits least most (text ++ rest)))
      ≡ Ok (at d t o (with_component (Subsecond p) s) rest)
  fraction_by p k least most text rest v shown is value =
      ap (λ x. taken (Subsecond p) (at d t o s (text ++ rest)) (as_fraction k x)) is
      ∙ after (Subsecond p) d t o s (with_component (Subsecond p) s) text rest _
      (fraction_kept (fields_shown d t o s) (record { digits = k; nanosecond = v * unit (length text) })
      s.subsecond k t.nanosecond (ap (λ (x : ℕ). record { digits = k; nanosecond = x }) value)
      ∙ ap (λ (j : ℕ). Some (record (fields_shown d t o s) {
        subsecond = cut_where (Some (more_digits s.subsecond j)) t.nanosecond;
      })) (sym shown))

  -- exactly k digits
  digits_row : (p : SubsecondFields) (k : ℕ) → k ≤ 9 → digits_shown p.digits ≡ k → (rest : Text)
      → taken (Subsecond p) (at d t o s (take k (filled Padding.Zero 9 t.nanosecond) ++ rest))
      (as_fraction k (digits k k (take k (filled Padding.Zero 9 t.nanosecond) ++ rest)))
      ≡ Ok (at d t o (with_component (Subsecond p) s) rest)
  digits_row p k few is rest =
      fraction_by p k k k (take k (filled Padding.Zero 9 t.nanosecond)) rest _ is
      (first_digits k t.nanosecond rest few t.nanoseconds) (first_value k t.nanosecond few t.nanoseconds)

  pub fraction_row : (digits : SubsecondDigits) (p : SubsecondFields) → p.digits ≡ digits → (rest : Text)
      → IsBounded (fraction_bound digits) rest
      → taken (Subsecond p) (at d t o s (subsecond digits t.nanosecond ++ rest))
      (fraction digits (subsecond digits t.nanosecond ++ rest))
      ≡ Ok (at d t o (with_component (Subsecond p) s) rest)
  fraction_row SubsecondDigits.OneOrMore p is rest ends =
      fraction_by p 9 1 9 (at_least_one (trimmed (filled Padding.Zero 9 t.nanosecond))) rest _ (ap digits_shown is)
      (trimmed_back t.nanosecond rest t.nanoseconds ends) (trimmed_value t.nanosecond t.nanoseconds)
  fraction_row digits p is rest ends = digits_row p (digits_shown digits) (omega arith) (ap digits_shown is) rest

-- the end of the text

end_by : (c : Component) (d : Date) (t : Time) (o : UtcOffset) (s : Shows) (x : TrailingInput)
    → taken c (at d t o s []) (end x []) ≡ Ok (at d t o s [])
end_by c d t o s TrailingInput.Prohibit = refl
end_by c d t o s TrailingInput.Discard = refl

pub end_row : (d : Date) (t : Time) (o : UtcOffset) (s : Shows) (p : EndFields) (rest : Text) → rest ≡ []
    → taken (End p) (at d t o s rest) (end p.trailing_input rest) ≡ Ok (at d t o s rest)
end_row d t o s p rest is =
    subst (λ (xs : Text). taken (End p) (at d t o s xs) (end p.trailing_input xs) ≡ Ok (at d t o s xs)) (sym is)
    (end_by (End p) d t o s p.trailing_input)
