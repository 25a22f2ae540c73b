-- What was written is read back.
use Rattle.std.proofs.Common.{ℕ, ◌≡◌, ◌∙◌, ◌≤◌, ◌<◌, ◌+◌, ◌-◌, ◌^◌, ◌++◌, ◌&&◌, zero, suc, true, nat_le, [], ◌∷◌, length, replicate, min, take, Some, None, cond, refl, sym, ap, arith, length-append}
use Rattle.std.proofs.Math.Nat.{pow-le-pow_right}
use Rattle.std.proofs.Math.Seq.{take-append_seam}
use Rattle.std.proofs.lemmas.Bool.{le-leb}
use Rattle.std.proofs.lemmas.Fmt.{decimal_is_IsNumeral_wide, length-decimal-le_wide}
use Rattle.std.proofs.lemmas.List.{length-replicate}
use Rattle.std.proofs.lemmas.Str.Parse.{digit_from_value}
use Rattle.std.specs.Char.{digit_value, is_ascii_digit}
use Rattle.std.specs.Fmt.{decimal}
use Rattle.std.specs.List.{prefix_len}
use Rattle.std.specs.Str.Parse.{AllDigits, digits_value}
use Rattle.timefd_lang_component.specs.Texts.{filled}
use Rattle.timefd_lang_component.specs.Tree.{Text}
use Rattle.timefd_modifier.specs.declared.enums.Padding.{Padding}
use Rattle.timefd_date_moment.specs.declared.fields.rule.NameList.{NameList}
use Rattle.timefd_date_moment.specs.Fields.Laws.{ReadsFilled, ReadsNames}
use Rattle.timefd_date_moment.specs.Fields.Numbers.{digits, enough, within}
use Rattle.timefd_date_moment.specs.Fields.Inputs.{as_count}

pub zeros_value : (k : ℕ) (xs : Text) → digits_value 10 (replicate k 48 ++ xs) ≡ digits_value 10 xs
zeros_value zero xs = refl
zeros_value (suc k) xs = zeros_value k xs

pub zeros_digits : (k : ℕ) (ds : Text) → AllDigits 10 ds → AllDigits 10 (replicate k 48 ++ ds)
zeros_digits zero ds h = h
zeros_digits (suc k) ds h = (omega arith, zeros_digits k ds h)

pub is_digit : (c : ℕ) → digit_value c < 10 → is_ascii_digit c ≡ true
is_digit c h =
    let bounds = digit_from_value c h in
    ap (λ b. b && nat_le c 57) (le-leb 48 c bounds.0) ∙ le-leb c 57 bounds.1

-- Digits in front of a text are a part of the digits at the start.
pub run : (ds rest : Text) → AllDigits 10 ds
    → prefix_len is_ascii_digit (ds ++ rest) ≡ length ds + prefix_len is_ascii_digit rest
run [] rest h = omega arith
run (c ∷ ds) rest h =
    ap (λ b. cond b (1 + prefix_len is_ascii_digit (ds ++ rest)) 0) (is_digit c h.0)
    ∙ omega (arith, run ds rest h.1)

pub wide : (width n : ℕ) → width ≤ 23 → n < 10 ^ width → n < 10 ^ 64
wide width n few small =
    let most : 10 ^ width ≤ 10 ^ 23 = pow-le-pow_right (omega arith) few in
    omega (arith, most, small)

size : (width n : ℕ) → 1 ≤ width → width ≤ 23 → n < 10 ^ width
    → length (filled Padding.Zero width n) ≡ width
size width n some few small =
    let short : length (decimal n) ≤ width =
    length-decimal-le_wide width n (omega arith) small (wide width n few small) in
    omega (
      arith,
      short,
      length-append (replicate (width - length (decimal n)) 48) (decimal n),
      length-replicate {A = ℕ} (width - length (decimal n)) 48,
    )

-- This many digits are enough, and no more are taken.
exactly : (width count : ℕ) (text rest : Text) → length text ≡ width → count ≡ width
    → enough width count (text ++ rest) ≡ Some (digits_value 10 text, width)
exactly width count text rest len is =
    ap (λ (k : ℕ). enough width k (text ++ rest)) is
    ∙ ap (λ b. cond b (Some (digits_value 10 (take width (text ++ rest)), width)) None)
    (le-leb width width (omega arith))
    ∙ ap (λ (k : ℕ). Some (digits_value 10 (take k (text ++ rest)), width)) (sym len)
    ∙ ap (λ xs. Some (digits_value 10 xs, width)) (take-append_seam text rest)

digits_back : (width n : ℕ) (rest : Text) → 1 ≤ width → width ≤ 23 → n < 10 ^ width
    → digits width width (filled Padding.Zero width n ++ rest) ≡ Some (n, width)
digits_back width n rest some few small =
    let text = filled Padding.Zero width n in
    let of = decimal_is_IsNumeral_wide n (wide width n few small) in
    let all = zeros_digits (width - length (decimal n)) (decimal n) of.0.1 in
    let len = size width n some few small in
    exactly width (min width (prefix_len is_ascii_digit (text ++ rest))) text rest len
    (omega (arith, len, run text rest all))
    ∙ ap (λ (v : ℕ). Some (v, width)) (zeros_value (width - length (decimal n)) (decimal n) ∙ of.1)

pub in_range : (lowest highest n len : ℕ) → lowest ≤ n → n ≤ highest
    → within lowest highest (Some (n, len)) ≡ Some (n, len)
in_range lowest highest n len low high =
    ap (λ b. cond (b && nat_le n highest) (Some (n, len)) None) (le-leb lowest n low)
    ∙ ap (λ b. cond b (Some (n, len)) None) (le-leb n highest high)

pub reads_filled : ReadsFilled
reads_filled field width lowest highest n rest some few low high small =
    ap (λ r. as_count field (within lowest highest r))
    (digits_back width n rest some few (omega (arith, high, small)))
    ∙ ap (λ r. as_count field r) (in_range lowest highest n width low high)

pub reads_names : ReadsNames
reads_names NameList.ShortMonths zero rest h = refl
reads_names NameList.ShortMonths (suc zero) rest h = refl
reads_names NameList.ShortMonths (suc (suc zero)) rest h = refl
reads_names NameList.ShortMonths (suc (suc (suc zero))) rest h = refl
reads_names NameList.ShortMonths (suc (suc (suc (suc zero)))) rest h = refl
reads_names NameList.ShortMonths (suc (suc (suc (suc (suc zero))))) rest h = refl
reads_names NameList.ShortMonths (suc (suc (suc (suc (suc (suc zero)))))) rest h = refl
reads_names NameList.ShortMonths (suc (suc (suc (suc (suc (suc (suc zero))))))) rest h = refl
reads_names NameList.ShortMonths (suc (suc (suc (suc (suc (suc (suc (suc zero)))))))) rest h = refl
reads_names NameList.ShortMonths (suc (suc (suc (suc (suc (suc (suc (suc (suc zero))))))))) rest h = refl
reads_names NameList.ShortMonths (suc (suc (suc (suc (suc (suc (suc (suc (suc (suc zero)))))))))) rest h = refl
reads_names NameList.ShortMonths (suc (suc (suc (suc (suc (suc (suc (suc (suc (suc (suc zero))))))))))) rest h = refl
reads_names NameList.ShortMonths (suc (suc (suc (suc (suc (suc (suc (suc (suc (suc (suc (suc n)))))))))))) rest h = absurd (omega (arith, h))
reads_names NameList.LongMonths zero rest h = refl
reads_names NameList.LongMonths (suc zero) rest h = refl
reads_names NameList.LongMonths (suc (suc zero)) rest h = refl
reads_names NameList.LongMonths (suc (suc (suc zero))) rest h = refl
reads_names NameList.LongMonths (suc (suc (suc (suc zero)))) rest h = refl
reads_names NameList.LongMonths (suc (suc (suc (suc (suc zero))))) rest h = refl
reads_names NameList.LongMonths (suc (suc (suc (suc (suc (suc zero)))))) rest h = refl
reads_names NameList.LongMonths (suc (suc (suc (suc (suc (suc (suc zero))))))) rest h = refl
reads_names NameList.LongMonths (suc (suc (suc (suc (suc (suc (suc (suc zero)))))))) rest h = refl
reads_names NameList.LongMonths (suc (suc (suc (suc (suc (suc (suc (suc (suc zero))))))))) rest h = refl
reads_names NameList.LongMonths (suc (suc (suc (suc (suc (suc (suc (suc (suc (suc zero)))))))))) rest h = refl
reads_names NameList.LongMonths (suc (suc (suc (suc (suc (suc (suc (suc (suc (suc (suc zero))))))))))) rest h = refl
reads_names NameList.LongMonths (suc (suc (suc (suc (suc (suc (suc (suc (suc (suc (suc (suc n)))))))))))) rest h = absurd (omega (arith, h))
reads_names NameList.ShortWeekdays zero rest h = refl
reads_names NameList.ShortWeekdays (suc zero) rest h = refl
reads_names NameList.ShortWeekdays (suc (suc zero)) rest h = refl
reads_names NameList.ShortWeekdays (suc (suc (suc zero))) rest h = refl
reads_names NameList.ShortWeekdays (suc (suc (suc (suc zero)))) rest h = refl
reads_names NameList.ShortWeekdays (suc (suc (suc (suc (suc zero))))) rest h = refl
reads_names NameList.ShortWeekdays (suc (suc (suc (suc (suc (suc zero)))))) rest h = refl
reads_names NameList.ShortWeekdays (suc (suc (suc (suc (suc (suc (suc n))))))) rest h = absurd (omega (arith, h))
reads_names NameList.LongWeekdays zero rest h = refl
reads_names NameList.LongWeekdays (suc zero) rest h = refl
reads_names NameList.LongWeekdays (suc (suc zero)) rest h = refl
reads_names NameList.LongWeekdays (suc (suc (suc zero))) rest h = refl
reads_names NameList.LongWeekdays (suc (suc (suc (suc zero)))) rest h = refl
reads_names NameList.LongWeekdays (suc (suc (suc (suc (suc zero))))) rest h = refl
reads_names NameList.LongWeekdays (suc (suc (suc (suc (suc (suc zero)))))) rest h = refl
reads_names NameList.LongWeekdays (suc (suc (suc (suc (suc (suc (suc n))))))) rest h = absurd (omega (arith, h))
reads_names NameList.UpperPeriods zero rest h = refl
reads_names NameList.UpperPeriods (suc zero) rest h = refl
reads_names NameList.UpperPeriods (suc (suc n)) rest h = absurd (omega (arith, h))
reads_names NameList.LowerPeriods zero rest h = refl
reads_names NameList.LowerPeriods (suc zero) rest h = refl
reads_names NameList.LowerPeriods (suc (suc n)) rest h = absurd (omega (arith, h))
