-- Names, weekdays by number, and periods are read back.
use Rattle.std.proofs.Common.{ℕ, ◌≡◌, ◌<◌, ◌++◌, zero, suc, Bool, true, false, List, [], get_or, length, Some, refl}
use Rattle.std.proofs.Common.{arith, ◌∙◌, ◌≤◌, ◌+◌, ◌-◌, ◌==◌, inl, ap}
use Rattle.std.specs.Prelude.{⊤}
use Rattle.std.proofs.lemmas.Fmt.{decimal_digit, decimal_is_IsNumeral_wide}
use Rattle.std.specs.Fmt.{decimal}
use Rattle.timefd_lang_component.specs.Texts.{filled, long_months, long_weekdays, short_months, short_weekdays}
use Rattle.timefd_lang_component.specs.Tree.{Text}
use Rattle.timefd_date_format.specs.Fields.{from_one, period_text}
use Rattle.timefd_modifier.specs.declared.enums.Padding.{Padding}
use Rattle.timefd_date_moment.specs.Fields.Names.{listed, name_from}
use Rattle.timefd_date_moment.specs.Fields.Inputs.{first_number}
use Rattle.timefd_date_moment.specs.Fields.Numbers.{digits, within}
use Rattle.timefd_date_moment.specs.Fields.Rules.{period_names}
use Rattle.timefd_date_moment.proofs.FieldsLemmas.BackLemmas.{in_range}
use Rattle.timefd_date_moment.proofs.FieldsLemmas.EndedLemmas.{digits_back}

-- the property holds of each number below this
abbrev Below : ℕ → (ℕ → Type 0) → Type 0
Below zero P = ⊤
Below (suc k) P = P zero × Below k (λ n. P (suc n))

below : (k : ℕ) (P : ℕ → Type 0) → Below k P → (n : ℕ) → n < k → P n
below zero P all n h = absurd (omega (arith, h))
below (suc k) P all zero h = all.0
below (suc k) P all (suc n) h = below k (λ i. P (suc i)) all.1 n (omega (arith, h))

-- The name with this index is the first of the list that the text begins with.
abbrev IsBack : Bool → List Text → Text → ℕ → Type 0
IsBack is_case_sensitive names rest n =
    name_from 0 is_case_sensitive names (get_or names n [] ++ rest) ≡ Some (n, length (get_or names n []))

pub short_months_back : (b : Bool) (n : ℕ) (rest : Text) → n < 12 → IsBack b short_months rest n
short_months_back true n rest h = below 12 (IsBack true short_months rest)
    (refl, (refl, (refl, (refl, (refl, (refl, (refl, (refl, (refl, (refl, (refl, (refl, tt)))))))))))) n h
short_months_back false n rest h = below 12 (IsBack false short_months rest)
    (refl, (refl, (refl, (refl, (refl, (refl, (refl, (refl, (refl, (refl, (refl, (refl, tt)))))))))))) n h

pub long_months_back : (b : Bool) (n : ℕ) (rest : Text) → n < 12 → IsBack b long_months rest n
long_months_back true n rest h = below 12 (IsBack true long_months rest)
    (refl, (refl, (refl, (refl, (refl, (refl, (refl, (refl, (refl, (refl, (refl, (refl, tt)))))))))))) n h
long_months_back false n rest h = below 12 (IsBack false long_months rest)
    (refl, (refl, (refl, (refl, (refl, (refl, (refl, (refl, (refl, (refl, (refl, (refl, tt)))))))))))) n h

pub short_weekdays_back : (b : Bool) (n : ℕ) (rest : Text) → n < 7 → IsBack b short_weekdays rest n
short_weekdays_back true n rest h =
    below 7 (IsBack true short_weekdays rest) (refl, (refl, (refl, (refl, (refl, (refl, (refl, tt))))))) n h
short_weekdays_back false n rest h =
    below 7 (IsBack false short_weekdays rest) (refl, (refl, (refl, (refl, (refl, (refl, (refl, tt))))))) n h

pub long_weekdays_back : (b : Bool) (n : ℕ) (rest : Text) → n < 7 → IsBack b long_weekdays rest n
long_weekdays_back true n rest h =
    below 7 (IsBack true long_weekdays rest) (refl, (refl, (refl, (refl, (refl, (refl, (refl, tt))))))) n h
long_weekdays_back false n rest h =
    below 7 (IsBack false long_weekdays rest) (refl, (refl, (refl, (refl, (refl, (refl, (refl, tt))))))) n h

one_digit : (n : ℕ) (rest : Text) → n < 10 → digits 1 1 (decimal n ++ rest) ≡ Some (n, length (decimal n))
one_digit n rest small =
    let of = decimal_is_IsNumeral_wide n (omega (arith, small)) in
    let one : length (decimal n) ≡ 1 = ap length (decimal_digit n small) in
    digits_back 1 1 (decimal n) rest of.0.1 (omega (arith, one)) (omega (arith, one)) (inl (omega (arith, one)))
    ∙ ap (λ (v : ℕ). Some (v, length (decimal n))) of.1

pub weekday_back : (b : Bool) (n : ℕ) (rest : Text) → n ≤ 6
    → within (first_number b) (first_number b + 6) (digits 1 1 (filled Padding.None 1 (from_one b n) ++ rest))
    ≡ Some (from_one b n, length (filled Padding.None 1 (from_one b n)))
weekday_back true n rest h =
    ap (λ r. within 1 7 r) (one_digit (n + 1) rest (omega (arith, h)))
    ∙ in_range 1 7 (n + 1) (length (decimal (n + 1))) (omega arith) (omega (arith, h))
weekday_back false n rest h =
    ap (λ r. within 0 6 r) (one_digit n rest (omega (arith, h)))
    ∙ in_range 0 6 n (length (decimal n)) (omega arith) h

pub less_first : (b : Bool) (n : ℕ) → from_one b n - first_number b ≡ n
less_first true n = omega arith
less_first false n = omega arith

abbrev pub period_position : Bool → ℕ
period_position true = 1
period_position false = 0

pub position_is : (b : Bool) → (period_position b == 1) ≡ b
position_is true = refl
position_is false = refl

pub period_back : (is_uppercase is_case_sensitive is_afternoon : Bool) (rest : Text)
    → name_from 0 is_case_sensitive (listed (period_names is_uppercase)) (period_text is_uppercase is_afternoon ++ rest)
    ≡ Some (period_position is_afternoon, length (period_text is_uppercase is_afternoon))
period_back true true true rest = refl
period_back true true false rest = refl
period_back true false true rest = refl
period_back true false false rest = refl
period_back false true true rest = refl
period_back false true false rest = refl
period_back false false true rest = refl
period_back false false false rest = refl
