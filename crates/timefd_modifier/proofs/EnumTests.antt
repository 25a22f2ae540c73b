-- `==` of the enums is equality, and so is `==` of flags and of counts.
use Rattle.std.proofs.Common.{ℕ, ◌≡◌, ◌<◌, refl, ap, subst, Bool, true, false, nat_eq, eqb-true, eq-eqb}
use Rattle.std.proofs.Math.Bridge.{le_prop}
use Rattle.std.proofs.lemmas.Bool.{false≢true}
use Rattle.std.specs.Bool.{beq}
use Rattle.std.specs.declared.num.NonZeroU16.{NonZeroU16}
use denote.Enum.Bare.{same_true, true_same}
use Rattle.timefd_modifier.specs.Equality.{IsEquality}
use Rattle.timefd_modifier.specs.declared.enums.Padding.{Padding}
use Rattle.timefd_modifier.specs.contracts.enums.PaddingPartialEq.TheImpl as padding_eq
use Rattle.timefd_modifier.specs.contracts.enums.Padding.{the_type as padding_type}
use Rattle.timefd_modifier.specs.declared.enums.MonthRepr.{MonthRepr}
use Rattle.timefd_modifier.specs.contracts.enums.MonthReprPartialEq.TheImpl as month_repr_eq
use Rattle.timefd_modifier.specs.contracts.enums.MonthRepr.{the_type as month_repr_type}
use Rattle.timefd_modifier.specs.declared.enums.WeekdayRepr.{WeekdayRepr}
use Rattle.timefd_modifier.specs.contracts.enums.WeekdayReprPartialEq.TheImpl as weekday_repr_eq
use Rattle.timefd_modifier.specs.contracts.enums.WeekdayRepr.{the_type as weekday_repr_type}
use Rattle.timefd_modifier.specs.declared.enums.WeekNumberRepr.{WeekNumberRepr}
use Rattle.timefd_modifier.specs.contracts.enums.WeekNumberReprPartialEq.TheImpl as week_number_repr_eq
use Rattle.timefd_modifier.specs.contracts.enums.WeekNumberRepr.{the_type as week_number_repr_type}
use Rattle.timefd_modifier.specs.declared.enums.YearRepr.{YearRepr}
use Rattle.timefd_modifier.specs.contracts.enums.YearReprPartialEq.TheImpl as year_repr_eq
use Rattle.timefd_modifier.specs.contracts.enums.YearRepr.{the_type as year_repr_type}
use Rattle.timefd_modifier.specs.declared.enums.YearRange.{YearRange}
use Rattle.timefd_modifier.specs.contracts.enums.YearRangePartialEq.TheImpl as year_range_eq
use Rattle.timefd_modifier.specs.contracts.enums.YearRange.{the_type as year_range_type}
use Rattle.timefd_modifier.specs.declared.enums.SubsecondDigits.{SubsecondDigits}
use Rattle.timefd_modifier.specs.contracts.enums.SubsecondDigitsPartialEq.TheImpl as subsecond_digits_eq
use Rattle.timefd_modifier.specs.contracts.enums.SubsecondDigits.{the_type as subsecond_digits_type}
use Rattle.timefd_modifier.specs.declared.enums.UnixTimestampPrecision.{UnixTimestampPrecision}
use Rattle.timefd_modifier.specs.contracts.enums.UnixTimestampPrecisionPartialEq.TheImpl as unix_timestamp_precision_eq
use Rattle.timefd_modifier.specs.contracts.enums.UnixTimestampPrecision.{the_type as unix_timestamp_precision_type}
use Rattle.timefd_modifier.specs.declared.enums.TrailingInput.{TrailingInput}
use Rattle.timefd_modifier.specs.contracts.enums.TrailingInputPartialEq.TheImpl as trailing_input_eq
use Rattle.timefd_modifier.specs.contracts.enums.TrailingInput.{the_type as trailing_input_type}

pub padding_is : IsEquality Padding (padding_eq.ghosts).eq
padding_is = record { exact = λ a b. (same_true padding_type tt a b, true_same padding_type a b) }

pub month_repr_is : IsEquality MonthRepr (month_repr_eq.ghosts).eq
month_repr_is =
    record { exact = λ a b. (same_true month_repr_type tt a b, true_same month_repr_type a b) }

pub weekday_repr_is : IsEquality WeekdayRepr (weekday_repr_eq.ghosts).eq
weekday_repr_is =
    record { exact = λ a b. (same_true weekday_repr_type tt a b, true_same weekday_repr_type a b) }

pub week_number_repr_is : IsEquality WeekNumberRepr (week_number_repr_eq.ghosts).eq
week_number_repr_is = record {
  exact =
      λ a b. (same_true week_number_repr_type tt a b, true_same week_number_repr_type a b);
}

pub year_repr_is : IsEquality YearRepr (year_repr_eq.ghosts).eq
year_repr_is =
    record { exact = λ a b. (same_true year_repr_type tt a b, true_same year_repr_type a b) }

pub year_range_is : IsEquality YearRange (year_range_eq.ghosts).eq
year_range_is =
    record { exact = λ a b. (same_true year_range_type tt a b, true_same year_range_type a b) }

pub subsecond_digits_is : IsEquality SubsecondDigits (subsecond_digits_eq.ghosts).eq
subsecond_digits_is = record {
  exact =
      λ a b. (same_true subsecond_digits_type tt a b, true_same subsecond_digits_type a b);
}

pub unix_timestamp_precision_is : IsEquality UnixTimestampPrecision
    (unix_timestamp_precision_eq.ghosts).eq
unix_timestamp_precision_is = record {
  exact =
      λ a b. (
        same_true unix_timestamp_precision_type tt a b,
        true_same unix_timestamp_precision_type a b,
      );
}

pub trailing_input_is : IsEquality TrailingInput (trailing_input_eq.ghosts).eq
trailing_input_is = record {
  exact =
      λ a b. (same_true trailing_input_type tt a b, true_same trailing_input_type a b);
}

bool_sound : (a b : Bool) → beq a b ≡ true → a ≡ b
bool_sound true true e = refl
bool_sound false false e = refl
bool_sound _ _ e = absurd (false≢true e)

bool_same : (a : Bool) → beq a a ≡ true
bool_same true = refl
bool_same false = refl

pub bool_is : IsEquality Bool beq
bool_is = record {
  exact = λ a b. (bool_sound a b, λ e. subst (λ x. beq a x ≡ true) e (bool_same a));
}

abbrev pub same_count : NonZeroU16 → NonZeroU16 → Bool
same_count a b = nat_eq a.value b.value

abbrev not_zero : (n : ℕ) → 0 < n → NonZeroU16
not_zero n some = record { value = n; ok = some }

one_proof : (n : ℕ) → IsProp (0 < n)
one_proof n = le_prop

not_zero_same : (n m : ℕ) → n ≡ m → (p : 0 < n) (q : 0 < m) → not_zero n p ≡ not_zero m q
not_zero_same n m e = subst (λ x. (p : 0 < n) (q : 0 < x) → not_zero n p ≡ not_zero x q) e
    (λ p q. ap (not_zero n) (one_proof n p q))

pub count_is : IsEquality NonZeroU16 same_count
count_is = record {
  exact = λ a b. (
    λ e. not_zero_same a.value b.value (eqb-true a.value b.value e) a.ok b.ok,
    λ e. eq-eqb a.value b.value (ap (λ (x : NonZeroU16). x.value) e),
  );
}
