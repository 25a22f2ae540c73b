-- Numbers filled with zeros, two digits at a time.
use Rattle.std.proofs.Common.{ℕ, zero, suc, nat_lt, Bool, true, false, ◌≡◌, ◌∙◌, ◌+◌, ◌-◌, ◌/◌, ◌%◌, ◌^◌, ◌<◌, ◌≤◌, [], ◌∷◌, ◌++◌, length, replicate, refl, sym, ap, subst, arith, append_assoc, length-append}
use Rattle.std.proofs.lemmas.Bool.{ltb-true, ltb-false}
use Rattle.std.proofs.lemmas.Fmt.{decimal_digit}
use Rattle.std.specs.Fmt.{decimal}
use Rattle.timefd_modifier.specs.declared.enums.Padding.{Padding}
use Rattle.timefd_lang_component.specs.Texts.{filled}
use Rattle.timefd_lang_component.specs.Tree.{Text}
use Rattle.timefd_date_format.specs.Puts.{pair}
use Rattle.timefd_date_format.proofs.DigitLemmas.{one_step, two_digits, two_filled}
use Rattle.timefd_date_format.specs.Appends.{IsAppended}
use Rattle.timefd_date_format.proofs.AppendLemmas.{both_appended}

zeros : ℕ → Text
zeros k = replicate {A = ℕ} k 48

one_zero : (k : ℕ) → zeros (suc k) ≡ zeros k ++ 48 ∷ []
unfolding zeros
one_zero zero = refl
one_zero (suc k) = ap (λ xs. 48 ∷ xs) (one_zero k)

filled_is : (width n : ℕ) (digits : Text) → decimal n ≡ digits
    → filled Padding.Zero width n ≡ zeros (width - length digits) ++ digits
unfolding zeros
filled_is width n digits is = ap (λ ds. replicate {A = ℕ} (width - length ds) 48 ++ ds) is

zero_filled : (k : ℕ) → 1 ≤ k → filled Padding.Zero k 0 ≡ zeros k
zero_filled zero some = absurd (omega (arith, some))
zero_filled (suc k) some =
    let left : suc k - 1 ≡ k = omega arith in
    filled_is (suc k) 0 (48 ∷ []) (decimal_digit 0 (omega arith)) ∙ ap (λ j. zeros j ++ 48 ∷ []) left ∙ sym (one_zero k)

-- Padded to two digits more, for a number below 100.
few : (k n : ℕ) → n < 100 → filled Padding.Zero (k + 2) n ≡ zeros k ++ pair n
few k n short = by (nat_lt n 10) refl
  where
    by : (b : Bool) → nat_lt n 10 ≡ b → filled Padding.Zero (k + 2) n ≡ zeros k ++ pair n
    by true is =
        let below : n < 10 = ltb-true n 10 is in
        let left : k + 2 - 1 ≡ suc k = omega arith in
        let none : 0 ≡ n / 10 = omega (arith, below) in
        let same : n ≡ n % 10 = omega (arith, below) in
        filled_is (k + 2) n ((48 + n) ∷ []) (decimal_digit n below)
        ∙ ap (λ j. zeros j ++ (48 + n) ∷ []) left
        ∙ ap (λ zs. zs ++ (48 + n) ∷ []) (one_zero k)
        ∙ append_assoc (zeros k) (48 ∷ []) ((48 + n) ∷ [])
        ∙ (λ i. zeros k ++ (48 + none i) ∷ (48 + same i) ∷ [])
    by false is =
        let left : k + 2 - 2 ≡ k = omega arith in
        filled_is (k + 2) n (pair n) (two_digits n (ltb-false n 10 is) short) ∙ ap (λ j. zeros j ++ pair n) left

pub two_more : (k n : ℕ) → 1 ≤ k → n < 10 ^ 64
    → filled Padding.Zero (k + 2) n ≡ filled Padding.Zero k (n / 100) ++ pair (n % 100)
two_more k n some small = by (nat_lt n 100) refl
  where
    front : Text
    front = decimal (n / 100)

    by : (b : Bool) → nat_lt n 100 ≡ b
        → filled Padding.Zero (k + 2) n ≡ filled Padding.Zero k (n / 100) ++ pair (n % 100)
    by true is =
        let below : n < 100 = ltb-true n 100 is in
        let none : 0 ≡ n / 100 = omega (arith, below) in
        let same : n ≡ n % 100 = omega (arith, below) in
        few k n below ∙ ap (λ zs. zs ++ pair n) (sym (zero_filled k some))
        ∙ (λ i. filled Padding.Zero k (none i) ++ pair (same i))
    by false is =
        let left : k + 2 - length (decimal (n / 100) ++ pair (n % 100)) ≡ k - length (decimal (n / 100)) =
        omega (arith, length-append (decimal (n / 100)) (pair (n % 100))) in
        filled_is (k + 2) n (decimal (n / 100) ++ pair (n % 100)) (one_step n (ltb-false n 100 is) small)
        ∙ ap (λ j. zeros j ++ (decimal (n / 100) ++ pair (n % 100))) left
        ∙ sym (append_assoc (zeros (k - length (decimal (n / 100)))) (decimal (n / 100)) (pair (n % 100)))
        ∙ ap (λ x. x ++ pair (n % 100)) (sym (filled_is k (n / 100) (decimal (n / 100)) refl))

-- A number below 10,000.
pub four : (n : ℕ) → n < 10000 → filled Padding.Zero 4 n ≡ pair (n / 100) ++ pair (n % 100)
four n short =
    two_more 2 n (omega arith) (omega (arith, short))
    ∙ ap (λ x. x ++ pair (n % 100)) (two_filled (n / 100) (omega (arith, short)))

-- A number of two digits, padded with a space or not at all.
pub spaced_short : (n : ℕ) → n < 10 → filled Padding.Space 2 n ≡ 32 ∷ (48 + n) ∷ []
spaced_short n short = ap (λ ds. replicate {A = ℕ} (2 - length ds) 32 ++ ds) (decimal_digit n short)

pub spaced_full : (n : ℕ) → 10 ≤ n → n < 100 → filled Padding.Space 2 n ≡ pair n
spaced_full n long short = ap (λ ds. replicate {A = ℕ} (2 - length ds) 32 ++ ds) (two_digits n long short)

pub unfilled_short : (n : ℕ) → n < 10 → filled Padding.None 2 n ≡ (48 + n) ∷ []
unfilled_short n short = decimal_digit n short

pub unfilled_full : (n : ℕ) → 10 ≤ n → n < 100 → filled Padding.None 2 n ≡ pair n
unfilled_full n long short = two_digits n long short

filled_one : (d : ℕ) → d < 10 → filled Padding.Zero 1 d ≡ (48 + d) ∷ []
unfolding zeros
filled_one d short = filled_is 1 d ((48 + d) ∷ []) (decimal_digit d short)

pub nine_digits : (n : ℕ) → n ≤ 999999999 → filled Padding.Zero 9 n
    ≡ (48 + n / 10000 / 10000) ∷ [] ++ ((pair (n / 10000 % 10000 / 100) ++ pair (n / 10000 % 10000 % 100))
    ++ (pair (n % 10000 / 100) ++ pair (n % 10000 % 100)))
nine_digits n fits =
    let two = two_more 7 n (omega arith) (omega (arith, fits)) in
    let more = two_more 5 (n / 100) (omega arith) (omega (arith, fits)) in
    let six = two_more 3 (n / 100 / 100) (omega arith) (omega (arith, fits)) in
    let eight = two_more 1 (n / 100 / 100 / 100) (omega arith) (omega (arith, fits)) in
    let first : filled Padding.Zero 1 (n / 100 / 100 / 100 / 100) ≡ (48 + n / 100 / 100 / 100 / 100) ∷ [] =
    filled_one (n / 100 / 100 / 100 / 100) (omega (arith, fits)) in
    let a : n / 100 / 100 / 100 / 100 ≡ n / 10000 / 10000 = omega arith in
    let b : n / 100 / 100 / 100 % 100 ≡ n / 10000 % 10000 / 100 = omega arith in
    let c : n / 100 / 100 % 100 ≡ n / 10000 % 10000 % 100 = omega arith in
    let d : n / 100 % 100 ≡ n % 10000 / 100 = omega arith in
    let e : n % 100 ≡ n % 10000 % 100 = omega arith in
    two ∙ ap (λ x. x ++ pair (n % 100)) (more ∙ ap (λ x. x ++ pair (n / 100 % 100)) (six
    ∙ ap (λ x. x ++ pair (n / 100 / 100 % 100)) (eight ∙ ap (λ x. x ++ pair (n / 100 / 100 / 100 % 100)) first)))
    ∙ (λ i. (48 + a i) ∷ [] ++ ((pair (b i) ++ pair (c i)) ++ (pair (d i) ++ pair (e i))))

pub nine_appended : (n : ℕ) (old one two new : Text) (at a b end : ℕ) → n ≤ 999999999
    → IsAppended ((48 + n / 10000 / 10000) ∷ []) old at one a
    → IsAppended (pair (n / 10000 % 10000 / 100) ++ pair (n / 10000 % 10000 % 100)) one a two b
    → IsAppended (pair (n % 10000 / 100) ++ pair (n % 10000 % 100)) two b new end
    → IsAppended (filled Padding.Zero 9 n) old at new end
nine_appended n old one two new at a b end fits p q r =
    subst (λ y. IsAppended y old at new end) (sym (nine_digits n fits))
    (both_appended ((48 + n / 10000 / 10000) ∷ []) _ old one new at a end p
    (both_appended (pair (n / 10000 % 10000 / 100) ++ pair (n / 10000 % 10000 % 100)) (pair (n % 10000 / 100) ++ pair (n % 10000 % 100))
    one two new a b end q r))
