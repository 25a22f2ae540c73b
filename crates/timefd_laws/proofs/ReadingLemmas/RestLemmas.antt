-- The digits of a second that a timestamp lacks are those of the fraction that was read, or 0 without one.
use Rattle.std.proofs.Common.{ℕ, ◌≡◌, ◌∙◌, ◌≤◌, ◌+◌, ◌-◌, ◌*◌, ◌/◌, ◌%◌, ◌⊎◌, inl, inr, Bool, true, false, nat_le, nat_lt}
use Rattle.std.proofs.Common.{if◌then◌else◌, Option, Some, None, min, refl, sym, ap, subst, arith}
use Rattle.std.specs.Prelude.{is_some}
use Rattle.std.proofs.Math.Nat.{div-mul-le_self}
use Rattle.std.proofs.lemmas.Bool.{eqb-true, le-leb, leb-false, leb-true, lt-ltb, ltb-true}
use Rattle.std.proofs.lemmas.Option.{same_Some}
use Rattle.timefd_date_moment.specs.declared.unix_time.UnixTime.{UnixTime}
use Rattle.timefd_date_moment.specs.Instants.{count, is_within}
use Rattle.timefd_date_moment.specs.Moments.{unix_start}
use Rattle.timefd_date_moment.specs.declared.fields.fields.Fraction.{Fraction}
use Rattle.timefd_date_moment.specs.declared.fields.fields.Signed.{Signed}
use Rattle.timefd_date_moment.specs.Fields.Readings.{unit}
use Rattle.timefd_date_moment.specs.Reading.StampLaws.{HasDigitsBy, HasRest}
use Rattle.timefd_date_moment.specs.Reading.Stamped.{has_digits}
use Rattle.timefd_date_moment.specs.Reading.Stamps.{after_second, by_second, by_unit, fraction_read, in_second, instant_by}
use Rattle.timefd_date_moment.specs.Reading.Stamps.{is_finer, stamp_magnitude, within_second}
use Rattle.timefd_date_moment.specs.Reading.Times.{nanosecond_read}
use Rattle.timefd_date_moment.proofs.ReadingLemmas.StampedLemmas.{unix_at}
use Rattle.timefd_laws.specs.Reading.Again.{digits_of}
use Rattle.timefd_laws.specs.Reading.Shown.{cut_where, if_shown}
use Rattle.timefd_laws.proofs.ReadingLemmas.StepLemmas.{IsWhole}
use Rattle.timefd_laws.proofs.ReadingLemmas.ValueBackLemmas.{whole_units}

-- On plain numbers: m nanoseconds before or after the start of 1970, counted like those of dates.

abbrev pub counted : Bool → ℕ → ℕ
counted b m = if b then unix_start * 1000000000 - m else unix_start * 1000000000 + m

abbrev pub within : Bool → ℕ → Bool
within b m =
    if b then nat_le m (31619087596800 * 1000000000) else nat_lt m (31494784780800 * 1000000000)

in_years : (b : Bool) (m : ℕ) → within b m ≡ true → m ≤ unix_start * 1000000000
in_years true m e = omega (arith, leb-true _ _ e)
in_years false m e = omega (arith, ltb-true _ _ e)

-- The nanoseconds of the second are those of the fraction, or 0.
abbrev IsRest : ℕ → ℕ → Type 0
IsRest n fraction = (n ≡ fraction % 1000000000) ⊎ (n ≡ 0)

after_rest : (b : Bool) (w fraction q n : ℕ) → q * 1000000000 + n ≡ counted b (after_second b w fraction)
    → within b (after_second b w fraction) ≡ true → n ≤ 999999999 → fraction ≤ 1000000000 → IsRest n fraction
after_rest false w fraction q n e h few small = inl (omega (arith, e, few, small))
after_rest true w fraction q n e h few small = by (nat_le fraction (w * 1000000000)) refl
  where
    by : (t : Bool) → nat_le fraction (w * 1000000000) ≡ t → IsRest n fraction
    by true is = inl (omega (arith, e, few, small, leb-true _ _ is, in_years true _ h))
    by false is = inr (omega (arith, e, few, small, leb-false _ _ is))

within_rest : (b : Bool) (w fraction q n : ℕ) → q * 1000000000 + n ≡ counted b (within_second b w fraction)
    → within b (within_second b w fraction) ≡ true → n ≤ 999999999 → fraction ≤ 1000000000 → IsRest n fraction
within_rest false w fraction q n e h few small = inl (omega (arith, e, few, small))
within_rest true w fraction q n e h few small = inl (omega (arith, e, few, small, in_years true _ h))

no_thousandth : (b : Bool) (k q n : ℕ) → q * 1000000000 + n ≡ counted b (k * 1000)
    → within b (k * 1000) ≡ true → n % 1000 ≡ 0
no_thousandth true k q n e h = omega (arith, e, in_years true _ h)
no_thousandth false k q n e h = omega (arith, e)

no_millionth : (b : Bool) (k q n : ℕ) → q * 1000000000 + n ≡ counted b (k * 1000000)
    → within b (k * 1000000) ≡ true → n % 1000000 ≡ 0
no_millionth true k q n e h = omega (arith, e, in_years true _ h)
no_millionth false k q n e h = omega (arith, e)

-- A fraction that was read is that of the second, if its digits are.

fraction_small : (fraction : Option Fraction) → fraction_read fraction ≤ 1000000000
fraction_small fraction = omega arith

fraction_rest : (fraction : Option Fraction) (n : ℕ) → n ≤ 999999999 → IsWhole fraction
    → has_digits fraction n ≡ true → IsRest n (fraction_read fraction) → nanosecond_read fraction ≡ n
fraction_rest None n few whole h (inl e) = omega (arith, e)
fraction_rest None n few whole h (inr e) = omega (arith, e)
fraction_rest (Some x) n few whole h rest =
    let u = unit x.digits in
    let same : x.nanosecond / u ≡ n / u = eqb-true _ _ h in
    let value : x.nanosecond ≡ n / u * u = sym (whole_units x.nanosecond u whole) ∙ ap (λ (k : ℕ). k * u) same in
    let least : x.nanosecond ≤ n = omega (arith, value, div-mul-le_self n u) in
    by x.nanosecond n few least rest
  where
    by : (k n : ℕ) → n ≤ 999999999 → k ≤ n → IsRest n (min k 1000000000) → k ≡ n
    by k n few least (inl e) = omega (arith, few, least, e)
    by k n few least (inr e) = omega (arith, least, e)

-- timestamps

-- what holds of an instant that was read
abbrev Ends : Option Fraction → UnixTime → ℕ → ℕ → Type 0
Ends fraction u q n = (q * 1000000000 + n ≡ count u) × (is_within u ≡ true) × (n ≤ 999999999) × IsWhole fraction
    × (has_digits fraction n ≡ true)

second_rest : (fraction : Option Fraction) (s : Signed) (q n : ℕ) → Ends fraction (by_second fraction s) q n
    → nanosecond_read fraction ≡ n
second_rest fraction s q n (e, h, few, whole, has) =
    fraction_rest fraction n few whole has
    (after_rest s.is_negative (stamp_magnitude s) (fraction_read fraction) q n e h few (fraction_small fraction))

-- with a smaller unit than seconds
unit_rest : (fraction : Option Fraction) (k size : ℕ) (s : Signed) (q n : ℕ) → Ends fraction (by_unit fraction k size s) q n
    → (q * 1000000000 + n ≡ counted s.is_negative (stamp_magnitude s * size)
    → within s.is_negative (stamp_magnitude s * size) ≡ true → n % size ≡ 0)
    → HasRest (is_finer fraction k) fraction size n
unit_rest fraction k size s q n (e, h, few, whole, has) none = by (is_finer fraction k) e h
  where
    by : (finer : Bool)
        → q * 1000000000 + n
        ≡ counted s.is_negative (in_second finer s.is_negative (stamp_magnitude s * size) (fraction_read fraction))
        → within s.is_negative (in_second finer s.is_negative (stamp_magnitude s * size) (fraction_read fraction)) ≡ true
        → HasRest finer fraction size n
    by true e h =
        fraction_rest fraction n few whole has
        (within_rest s.is_negative (stamp_magnitude s * size) (fraction_read fraction) q n e h few
        (fraction_small fraction))
    by false e h = none e h

ends_of : (fraction : Option Fraction) (u v : UnixTime) (q n : ℕ) → Ends fraction u q n → Some v ≡ Some u
    → Ends fraction v q n
ends_of fraction u v q n h e = subst (λ (x : UnixTime). Ends fraction x q n) (sym (same_Some v u e)) h

pub digits_kept : (fraction : Option Fraction) (ns us ms s : Option Signed) (u : UnixTime) (q n : ℕ)
    → instant_by fraction ns us ms s ≡ Some u → q * 1000000000 + n ≡ count u → is_within u ≡ true
    → n ≤ 999999999 → IsWhole fraction → has_digits fraction n ≡ true → HasDigitsBy fraction ns us ms n
digits_kept fraction (Some k) us ms s u q n e at h few whole has = tt
digits_kept fraction None (Some k) ms s u q n e at h few whole has =
    unit_rest fraction 6 1000 k q n (ends_of fraction u _ q n (at, h, few, whole, has) e)
    (no_thousandth k.is_negative (stamp_magnitude k) q n)
digits_kept fraction None None (Some k) s u q n e at h few whole has =
    unit_rest fraction 3 1000000 k q n (ends_of fraction u _ q n (at, h, few, whole, has) e)
    (no_millionth k.is_negative (stamp_magnitude k) q n)
digits_kept fraction None None None (Some k) u q n e at h few whole has =
    second_rest fraction k q n (ends_of fraction u _ q n (at, h, few, whole, has) e)
digits_kept fraction None None None None u q n e at h few whole has = absurd cc

-- The same holds of the fields that are shown.

fraction_again : (fraction : Option Fraction) (n : ℕ) → IsWhole fraction → nanosecond_read fraction ≡ n
    → nanosecond_read (cut_where (digits_of fraction) n) ≡ n
fraction_again None n whole e = e
fraction_again (Some x) n whole e =
    whole_units n (unit x.digits) (ap (λ (k : ℕ). k % unit x.digits) (sym e) ∙ whole)

rest_again : (fraction : Option Fraction) (k size n : ℕ) → IsWhole fraction
    → HasRest (is_finer fraction k) fraction size n
    → HasRest (is_finer (cut_where (digits_of fraction) n) k) (cut_where (digits_of fraction) n) size n
rest_again None k size n whole h = h
rest_again (Some x) k size n whole h = by (nat_lt k x.digits) h
  where
    by : (t : Bool) → HasRest t (Some x) size n → HasRest t (cut_where (Some x.digits) n) size n
    by true e = fraction_again (Some x) n whole e
    by false e = e

pub digits_again : (fraction : Option Fraction) (ns us ms : Option Signed) (a b c : Signed) (n : ℕ) → IsWhole fraction
    → HasDigitsBy fraction ns us ms n
    → HasDigitsBy (cut_where (digits_of fraction) n) (if_shown (is_some ns) a) (if_shown (is_some us) b)
    (if_shown (is_some ms) c) n
digits_again fraction (Some k) us ms a b c n whole h = tt
digits_again fraction None (Some k) ms a b c n whole h = rest_again fraction 6 1000 n whole h
digits_again fraction None None (Some k) a b c n whole h = rest_again fraction 3 1000000 n whole h
digits_again fraction None None None a b c n whole h = fraction_again fraction n whole h

-- The instant of the moment is in the years of UTC.
pub within_again : (b : Bool) (m : ℕ) → within b m ≡ true → is_within (unix_at (counted b m)) ≡ true
within_again b m h = by (nat_lt (counted b m) (unix_start * 1000000000)) b h refl
  where
    by : (t c : Bool) → within c m ≡ true → nat_lt (counted c m) (unix_start * 1000000000) ≡ t
        → is_within (if t then (record {
          is_negative = true;
          nanoseconds = unix_start * 1000000000 - counted c m;
        }) else (record {
          is_negative = false;
          nanoseconds = counted c m - unix_start * 1000000000;
        })) ≡ true
    by true true h e = le-leb _ _ (omega (arith, leb-true _ _ h))
    by true false h e = absurd (omega (arith, ltb-true _ _ e))
    by false true h e = lt-ltb _ _ (omega arith)
    by false false h e = lt-ltb _ _ (omega (arith, ltb-true _ _ h))
