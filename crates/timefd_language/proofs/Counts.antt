-- Counts, as Rust reads numbers.
use Rattle.std.proofs.Common.{ℕ, zero, suc, ◌≡◌, ◌+◌, ◌-◌, ◌*◌, ◌<◌, ◌≤◌, ◌^◌, ◌==◌, ◌&&◌, cond, Bool, true, false, [], ◌∷◌, drop, nat_le, Option, Some, None, option_map, MatchOption, Result, Ok, Err, refl, sym, ap, subst, ◌∙◌, arith, leb-true}
use Rattle.std.proofs.Math.Bridge.{le_prop}
use Rattle.std.specs.Char.{digit_value}
use Rattle.std.specs.Result.{result_ok}
use Rattle.std.specs.Str.Parse.{AllDigits, IsNumeral, digits_value_after, without_leading_plus, ParsesUnsigned}
use Rattle.std.proofs.lemmas.Bool.{and_parts}
use Rattle.std.proofs.lemmas.Bool.Decides.{nat_tests}
use Rattle.std.proofs.lemmas.Str.Parse.{digit_from_value}
use Rattle.std.specs.declared.num.NonZeroU16.{NonZeroU16}
use Rattle.timefd_lang_component.specs.Tree.{Text}
use Rattle.timefd_language.specs.declared.setting.Setting.{Setting}
use Rattle.timefd_language.specs.Bytes.{plus}
use Rattle.timefd_language.specs.Values.{digits_value, digits_of, counted, count_of, not_zero}

digit_value-is : (b : ℕ) → 48 ≤ b → b ≤ 57 → digit_value b ≡ b - 48
digit_value-is b low high = grind (arith, nat_tests)

digit_bounds : (b : ℕ) → 48 ≤ b → b ≤ 57 → (nat_le 48 b && nat_le b 57) ≡ true
digit_bounds b low high = grind (arith, nat_tests)

-- what is read is digits, and their value
read-digits : (digits : Text) (k n : ℕ) → digits_value k digits ≡ Some n → AllDigits 10 digits
    × (digits_value_after 10 k digits ≡ n)
read-digits [] k n e = (tt, cc)
read-digits (b ∷ digits) k n e = by (read-digits digits (k * 10 + (b - 48)) n)
    (nat_le 48 b && nat_le b 57) refl e
  where
    by : (digits_value (k * 10 + (b - 48)) digits ≡ Some n → AllDigits 10 digits
        × (digits_value_after 10 (k * 10 + (b - 48)) digits ≡ n))
        → (t : Bool) → (nat_le 48 b && nat_le b 57) ≡ t
        → elim t [ true ↦ digits_value (k * 10 + (b - 48)) digits | false ↦ None ] ≡ Some n
        → AllDigits 10 (b ∷ digits) × (digits_value_after 10 k (b ∷ digits) ≡ n)
    by more true h e =
        let p = and_parts (nat_le 48 b) (nat_le b 57) h in
        let low : 48 ≤ b = leb-true 48 b p.0 in
        let high : b ≤ 57 = leb-true b 57 p.1 in
        let value : digit_value b ≡ b - 48 = digit_value-is b low high in
        let small : digit_value b < 10 = omega (arith, value) in (
          (small, (more e).0),
          ap (λ d. digits_value_after 10 (k * 10 + d) digits) value ∙
              (more e).1,
        )
    by more false h e = absurd cc

-- digits are read as their value
digits-read : (digits : Text) (k : ℕ) → AllDigits 10 digits
    → digits_value k digits ≡ Some (digits_value_after 10 k digits)
digits-read [] k all = refl
digits-read (b ∷ digits) k all =
    let range = digit_from_value b all.0 in
    ap (λ t. elim t [ true ↦ digits_value (k * 10 + (b - 48)) digits | false ↦ None ])
    (digit_bounds b range.0 range.1)
    ∙ digits-read digits (k * 10 + (b - 48)) all.1
    ∙ ap (λ d. Some (digits_value_after 10 (k * 10 + d) digits))
    (sym (digit_value-is b range.0 range.1))

count_of-is : (text : Text) → count_of text ≡ counted (digits_of (without_leading_plus text))
count_of-is [] = refl
count_of-is (b ∷ text) = by (b == plus)
  where
    by : (t : Bool)
        → elim t [ true ↦ counted (digits_of text) | false ↦ counted (digits_of (b ∷ text)) ]
        ≡ counted (digits_of (drop (cond t 1 0) (b ∷ text)))
    by true = refl
    by false = refl

numeral-read : (digits : Text) → IsNumeral 10 digits
    → digits_of digits ≡ Some (digits_value_after 10 0 digits)
numeral-read [] is = absurd (omega (arith, is.0))
numeral-read (b ∷ digits) is = digits-read (b ∷ digits) 0 is.1

one_proof : (n : ℕ) (p q : 0 < n) → p ≡ q
one_proof n p q = le_prop p q

not_zero-is : (x : NonZeroU16) (n : ℕ) → x.value ≡ suc n → not_zero n ≡ x
not_zero-is x n e = by x.value (sym e) x.ok
  where
    by : (v : ℕ) → suc n ≡ v → (p : 0 < v)
        → ◌≡◌ {A = NonZeroU16} (not_zero n) (record { value = v; ok = p })
    by v e = subst (λ y. (p : 0 < y)
        → ◌≡◌ {A = NonZeroU16} (not_zero n) (record { value = y; ok = p })) e
        (λ p. ap {B = NonZeroU16} (λ q. record { value = suc n; ok = q }) (one_proof (suc n) _ p))

counted-small : (x : NonZeroU16) (n : ℕ) → x.value ≡ n → n < 2 ^ 16
    → counted (Some n) ≡ Some (Setting.Count x)
counted-small x zero e small = absurd (omega (arith, x.ok))
counted-small x (suc n) e small =
    ap (λ t. elim t [ true ↦ Some (Setting.Count (not_zero n)) | false ↦ None ]) (is_small)
    ∙ ap (λ y. Some (Setting.Count y)) (not_zero-is x n e)
  where
    is_small : nat_le (suc n) 65535 ≡ true
    is_small = grind (arith, nat_tests)

counted-large : (n : ℕ) → (n < 2 ^ 16 → ⊥) → counted (Some n) ≡ None
counted-large zero large = refl
counted-large (suc n) large = by (nat_le (suc n) 65535) refl
  where
    by : (t : Bool) → nat_le (suc n) 65535 ≡ t
        → ◌≡◌ {A = Option Setting} (elim t
        [ true ↦ Some (Setting.Count (not_zero n)) | false ↦ None ]) None
    by true e = let small : suc n ≤ 65535 = leb-true (suc n) 65535 e in absurd (large (omega arith))
    by false e = refl

-- What `parse` gives.

none-counted : (digits : Text) → (IsNumeral 10 digits × (digits_value_after 10 0 digits < 2 ^ 16)
    → ⊥) → counted (digits_of digits) ≡ None
none-counted [] not = refl
none-counted (b ∷ digits) not = by (digits_value 0 (b ∷ digits)) refl
  where
    by : (o : Option ℕ) → digits_value 0 (b ∷ digits) ≡ o → counted o ≡ None
    by None e = refl
    by (Some n) e =
        let read = read-digits (b ∷ digits) 0 n e in
        counted-large n (λ small. not (
          (omega arith, read.0),
          subst (λ m. m < 2 ^ 16) (sym read.1) small,
        ))

-- not a number
pub unread_count : {E : Type 0} (text : Text) (r : Result ℕ E) → ParsesUnsigned 16 10 text r
    → None ≡ result_ok r → None ≡ count_of text
unread_count text (Ok n) p e = absurd cc
unread_count text (Err error) p e =
    sym (count_of-is text ∙ none-counted (without_leading_plus text) p)

-- a number, from 1 or 0
pub read_count : {E : Type 0} (text : Text) (r : Result ℕ E) (n : ℕ) (o : Option NonZeroU16)
    → ParsesUnsigned 16 10 text r → Some n ≡ result_ok r
    → MatchOption o (n ≡ 0) (λ x. x.value ≡ n) → option_map Setting.Count o ≡ count_of text
read_count text (Err error) n o p e h = absurd cc
read_count text (Ok m) n o p e h = by o h ∙
    ap counted (sym (numeral-read (without_leading_plus text) p.0.0)) ∙ sym (count_of-is text)
  where
    is : n ≡ digits_value_after 10 0 (without_leading_plus text)
    is = let same : n ≡ m = cc in same ∙ p.1

    by : (o : Option NonZeroU16) → MatchOption o (n ≡ 0) (λ x. x.value ≡ n)
        → option_map Setting.Count o ≡ counted
        (Some (digits_value_after 10 0 (without_leading_plus text)))
    by None h = ap (λ y. counted (Some y)) (sym h ∙ is)
    by (Some x) h = sym (counted-small x (digits_value_after 10 0 (without_leading_plus text))
        (h ∙ is) p.0.1)
