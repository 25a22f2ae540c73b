-- What was written is read back: if it has as many digits as it may have, or no digit follows it.
use Rattle.std.proofs.Common.{ℕ, ◌≡◌, ◌∙◌, ◌≤◌, ◌<◌, ◌+◌, ◌-◌, ◌^◌, ◌++◌, ◌==◌, ◌⊎◌, inl, inr, zero, suc, Bool, true, false, if◌then◌else◌, [], ◌∷◌, drop, length, replicate, min, take, Some, None, cond, refl, ap, arith, length-append}
use Rattle.std.proofs.Math.Seq.{take-append_seam}
use Rattle.std.proofs.lemmas.Bool.{eqb-true, le-leb}
use Rattle.std.proofs.lemmas.Fmt.{decimal_is_IsNumeral_wide, length-decimal-le_wide}
use Rattle.std.proofs.lemmas.List.{length-replicate}
use Rattle.std.proofs.lemmas.Str.Parse.{digit_from_value}
use Rattle.std.specs.Char.{is_ascii_digit}
use Rattle.std.specs.Fmt.{decimal}
use Rattle.std.specs.List.{prefix_len}
use Rattle.std.specs.Str.Parse.{AllDigits, digits_value}
use Rattle.timefd_lang_component.specs.Texts.{filled}
use Rattle.timefd_lang_component.specs.Tree.{Text}
use Rattle.timefd_modifier.specs.declared.enums.Padding.{Padding}
use Rattle.timefd_date_moment.specs.Fields.Laws.{HasNoDigit, ReadsEnded, ReadsSigned, ReadsUnsigned}
use Rattle.timefd_date_moment.specs.Fields.Numbers.{after, after_spaces, digits, enough, is_space, padded, sign_in, signed_by, with_sign, within}
use Rattle.timefd_date_moment.specs.Fields.Inputs.{as_amount, as_count}
use Rattle.timefd_date_moment.proofs.FieldsLemmas.BackLemmas.{in_range, run, wide, zeros_digits, zeros_value}

taken : (least count : ℕ) (text rest : Text) → count ≡ length text → least ≤ length text
    → enough least count (text ++ rest) ≡ Some (digits_value 10 text, length text)
taken least count text rest is few =
    ap (λ (k : ℕ). enough least k (text ++ rest)) is
    ∙ ap (λ b. cond b (Some (digits_value 10 (take (length text) (text ++ rest)), length text)) None)
    (le-leb least (length text) few)
    ∙ ap (λ xs. Some (digits_value 10 xs, length text)) (take-append_seam text rest)

-- As many digits as there may be, or fewer if no digit follows.
pub digits_back : (least most : ℕ) (text rest : Text) → AllDigits 10 text → least ≤ length text
    → length text ≤ most → (most ≡ length text) ⊎ HasNoDigit rest
    → digits least most (text ++ rest) ≡ Some (digits_value 10 text, length text)
digits_back least most text rest all few many (inl is) =
    taken least (min most (prefix_len is_ascii_digit (text ++ rest))) text rest
    (omega (arith, is, run text rest all)) few
digits_back least most text rest all few many (inr ends) =
    taken least (min most (prefix_len is_ascii_digit (text ++ rest))) text rest
    (omega (arith, many, ends, run text rest all)) few

-- spaces

spaces_run : (k : ℕ) (xs rest : Text)
    → prefix_len is_space (replicate k 32 ++ xs ++ rest) ≡ k + prefix_len is_space (xs ++ rest)
spaces_run zero xs rest = omega arith
spaces_run (suc k) xs rest = omega (arith, spaces_run k xs rest)

spaces_dropped : (k : ℕ) (xs rest : Text) → drop k (replicate k 32 ++ xs ++ rest) ≡ xs ++ rest
spaces_dropped zero xs rest = refl
spaces_dropped (suc k) xs rest = spaces_dropped k xs rest

pub unequal : (c n : ℕ) (b : Bool) → (c == n) ≡ b → n < c → b ≡ false
unequal c n true e h = absurd (omega (arith, eqb-true c n e, h))
unequal c n false e h = refl

no_space : (text rest : Text) → 0 < length text → AllDigits 10 text
    → prefix_len is_space (text ++ rest) ≡ 0
no_space [] rest some all = absurd (omega (arith, some))
no_space (c ∷ cs) rest some all =
    let bounds = digit_from_value c all.0 in
    ap (λ b. cond b (1 + prefix_len is_space (cs ++ rest)) 0)
    (unequal c 32 (c == 32) refl (omega (arith, bounds.0)))

some_spaces : (k width len : ℕ) → (k == 0) ≡ false → k ≡ width - len → width - k ≡ len
some_spaces zero width len e is = absurd cc
some_spaces (suc k) width len e is = omega (arith, is)

space_by : (b : Bool) (k width most : ℕ) (text rest : Text) → (k == 0) ≡ b → k ≡ width - length text
    → AllDigits 10 text → length text ≤ most → (most ≡ k + length text) ⊎ HasNoDigit rest
    → digits (width - k) (if b then most else width - k) (text ++ rest)
    ≡ Some (digits_value 10 text, length text)
space_by true k width most text rest e is all many (inl ends) =
    digits_back (width - k) most text rest all (omega (arith, eqb-true k 0 e, is)) many
    (inl (omega (arith, eqb-true k 0 e, ends)))
space_by true k width most text rest e is all many (inr ends) =
    digits_back (width - k) most text rest all (omega (arith, eqb-true k 0 e, is)) many (inr ends)
space_by false k width most text rest e is all many ends =
    let left = some_spaces k width (length text) e is in
    digits_back (width - k) (width - k) text rest all (omega (arith, left)) (omega (arith, left)) (inl left)

space_back : (k width most : ℕ) (text rest : Text) → k ≡ width - length text → 0 < length text
    → AllDigits 10 text → length text ≤ most → (most ≡ k + length text) ⊎ HasNoDigit rest
    → padded Padding.Space width most (replicate k 32 ++ text ++ rest)
    ≡ Some (digits_value 10 text, k + length text)
space_back k width most text rest is some all many ends =
    let spaces : min (width - 1) (prefix_len is_space (replicate k 32 ++ text ++ rest)) ≡ k =
    omega (arith, is, some, spaces_run k text rest, no_space text rest some all) in
    ap (λ (s : ℕ). after_spaces s width most (replicate k 32 ++ text ++ rest)) spaces
    ∙ ap (λ xs. after k (digits (width - k) (if k == 0 then most else width - k) xs))
    (spaces_dropped k text rest)
    ∙ ap (λ r. after k r) (space_by (k == 0) k width most text rest refl is all many ends)

-- numbers

-- A number is padded to as many digits as it may have, or no digit follows it.
abbrev pub IsEnded : Padding → ℕ → ℕ → Text → Type 0
IsEnded Padding.Zero width most rest = (width ≡ most) ⊎ HasNoDigit rest
IsEnded Padding.Space width most rest = (width ≡ most) ⊎ HasNoDigit rest
IsEnded Padding.None width most rest = HasNoDigit rest

no_digit_ends : (padding : Padding) (width most : ℕ) (rest : Text) → HasNoDigit rest
    → IsEnded padding width most rest
no_digit_ends Padding.Zero width most rest ends = inr ends
no_digit_ends Padding.Space width most rest ends = inr ends
no_digit_ends Padding.None width most rest ends = ends

as_wide : (k width most len all : ℕ) (rest : Text) → k ≡ width - len → len ≤ most
    → all ≡ k + len → (width ≡ most) ⊎ HasNoDigit rest → (most ≡ all) ⊎ HasNoDigit rest
as_wide k width most len all rest is short sum (inl ends) = inl (omega (arith, is, short, sum, ends))
as_wide k width most len all rest is short sum (inr ends) = inr ends

pub filled_back : (padding : Padding) (width most n : ℕ) (rest : Text) → 1 ≤ width → width ≤ most
    → most ≤ 23 → n < 10 ^ most → IsEnded padding width most rest
    → padded padding width most (filled padding width n ++ rest) ≡ Some (n, length (filled padding width n))
filled_back Padding.Zero width most n rest some low few small ends =
    let k = width - length (decimal n) in
    let of = decimal_is_IsNumeral_wide n (wide most n few small) in
    let short : length (decimal n) ≤ most =
    length-decimal-le_wide most n (omega (arith, some, low)) small (wide most n few small) in
    let len : length (replicate k 48 ++ decimal n) ≡ k + length (decimal n) =
    omega (arith, length-append (replicate k 48) (decimal n), length-replicate {A = ℕ} k 48) in
    digits_back width most (replicate k 48 ++ decimal n) rest (zeros_digits k (decimal n) of.0.1)
    (omega (arith, len)) (omega (arith, len, short, low))
    (as_wide k width most (length (decimal n)) (length (replicate k 48 ++ decimal n)) rest refl short len ends)
    ∙ ap (λ (v : ℕ). Some (v, length (replicate k 48 ++ decimal n))) (zeros_value k (decimal n) ∙ of.1)
filled_back Padding.Space width most n rest some low few small ends =
    let k = width - length (decimal n) in
    let of = decimal_is_IsNumeral_wide n (wide most n few small) in
    let short : length (decimal n) ≤ most =
    length-decimal-le_wide most n (omega (arith, some, low)) small (wide most n few small) in
    let len : k + length (decimal n) ≡ length (replicate k 32 ++ decimal n) =
    omega (arith, length-append (replicate k 32) (decimal n), length-replicate {A = ℕ} k 32) in
    space_back k width most (decimal n) rest refl of.0.0 of.0.1 short
    (as_wide k width most (length (decimal n)) (k + length (decimal n)) rest refl short refl ends)
    ∙ ap (λ (v : ℕ). Some (v, k + length (decimal n))) of.1 ∙ ap (λ (l : ℕ). Some (n, l)) len
filled_back Padding.None width most n rest some low few small ends =
    let of = decimal_is_IsNumeral_wide n (wide most n few small) in
    let short : length (decimal n) ≤ most =
    length-decimal-le_wide most n (omega (arith, some, low)) small (wide most n few small) in
    digits_back 1 most (decimal n) rest of.0.1 (omega (arith, of.0.0)) short
    (inr ends)
    ∙ ap (λ (v : ℕ). Some (v, length (decimal n))) of.1

pub reads_ended : ReadsEnded
reads_ended field padding width lowest highest n rest some few low high small ends =
    ap (λ r. as_count field (within lowest highest r))
    (filled_back padding width width n rest some (omega arith) few (omega (arith, high, small))
    (no_digit_ends padding width width rest ends))
    ∙ ap (λ r. as_count field r) (in_range lowest highest n (length (filled padding width n)) low high)

pub reads_signed : ReadsSigned
reads_signed field mandatory true form n rest some low few high small ends =
    ap (λ r. as_amount field (with_sign true (after 1 (within 0 form.greatest r))))
    (filled_back form.padding form.width form.most_signed n rest some low few (omega (arith, high, small))
    (no_digit_ends form.padding form.width form.most_signed rest ends))
    ∙ ap (λ r. as_amount field (with_sign true (after 1 r)))
    (in_range 0 form.greatest n (length (filled form.padding form.width n)) (omega arith) high)
reads_signed field mandatory false form n rest some low few high small ends =
    ap (λ r. as_amount field (with_sign false (after 1 (within 0 form.greatest r))))
    (filled_back form.padding form.width form.most_signed n rest some low few (omega (arith, high, small))
    (no_digit_ends form.padding form.width form.most_signed rest ends))
    ∙ ap (λ r. as_amount field (with_sign false (after 1 r)))
    (in_range 0 form.greatest n (length (filled form.padding form.width n)) (omega arith) high)

-- signs

no_sign : (text rest : Text) → 0 < length text → AllDigits 10 text → sign_in (text ++ rest) ≡ None
no_sign [] rest some all = absurd (omega (arith, some))
no_sign (c ∷ cs) rest some all =
    let bounds = digit_from_value c all.0 in
    ap (λ b. cond b (Some true) (cond (c == 43) (Some false) None))
    (unequal c 45 (c == 45) refl (omega (arith, bounds.0)))
    ∙ ap (λ b. cond b (Some false) None) (unequal c 43 (c == 43) refl (omega (arith, bounds.0)))

no_sign_spaced : (k : ℕ) (text rest : Text) → 0 < length text → AllDigits 10 text
    → sign_in (replicate k 32 ++ text ++ rest) ≡ None
no_sign_spaced zero text rest some all = no_sign text rest some all
no_sign_spaced (suc k) text rest some all = refl

pub no_sign_filled : (padding : Padding) (width n : ℕ) (rest : Text) → n < 10 ^ 64
    → sign_in (filled padding width n ++ rest) ≡ None
no_sign_filled Padding.Zero width n rest small =
    let k = width - length (decimal n) in
    let of = decimal_is_IsNumeral_wide n small in
    no_sign (replicate k 48 ++ decimal n) rest
    (omega (arith, of.0.0, length-append (replicate k 48) (decimal n))) (zeros_digits k (decimal n) of.0.1)
no_sign_filled Padding.Space width n rest small =
    let of = decimal_is_IsNumeral_wide n small in
    no_sign_spaced (width - length (decimal n)) (decimal n) rest of.0.0 of.0.1
no_sign_filled Padding.None width n rest small =
    let of = decimal_is_IsNumeral_wide n small in
    no_sign (decimal n) rest of.0.0 of.0.1

pub reads_unsigned : ReadsUnsigned
reads_unsigned field form n rest some low few high small ends =
    let text = filled form.padding form.width n in
    ap (λ s. as_amount field (signed_by s false form (text ++ rest)))
    (no_sign_filled form.padding form.width n rest (wide form.most n few small))
    ∙ ap (λ r. as_amount field (with_sign false (within 0 form.greatest r)))
    (filled_back form.padding form.width form.most n rest some low few small
    (no_digit_ends form.padding form.width form.most rest ends))
    ∙ ap (λ r. as_amount field (with_sign false r)) (in_range 0 form.greatest n (length text) (omega arith) high)
