-- Runs of digits and of spaces.
use Rattle.std.proofs.Common.{ℕ, List, [], ◌∷◌, if◌then◌else◌, subst, ◌≡◌, ◌∙◌, ◌≤◌, ◌<◌, ◌+◌, ◌*◌, ◌-◌, ◌^◌, ◌&&◌, ◌==◌, Bool, true, false, nat_le, Some, None, get_or, length, min, arith, ap, sym, take, refl, add-one, zero-add}
use Rattle.std.proofs.Math.Nat.{pow-le-pow_right, pow-suc}
use Rattle.std.proofs.lemmas.Bool.{eqb-true, leb-true}
use Rattle.std.proofs.lemmas.List.Sums.{prefix_len-le-length, prefix_len-drop_yes, prefix_len-drop_no, prefix_len-drop_all}
use Rattle.std.proofs.lemmas.Int.Digits.{digits_value_more}
use Rattle.std.proofs.lemmas.Str.{digit_value_digit}
use Rattle.std.specs.Char.{digit_value, is_ascii_digit}
use Rattle.std.specs.List.{prefix_len}
use Rattle.std.specs.Str.Parse.{digits_value}
use Rattle.timefd_lang_component.specs.Tree.{Text}
use Rattle.timefd_date_moment.specs.Fields.Numbers.{IsDigitAt, IsSpaceAt, digits, enough, is_space, sign_in}

-- The text has this many digits.
pub digits_within : (text : Text) (most n : ℕ) → n ≡ min most (prefix_len is_ascii_digit text)
    → n ≤ length text
digits_within text most n is = omega (arith, is, prefix_len-le-length is_ascii_digit text)

pub spaces_within : (text : Text) (most n : ℕ) → n ≡ min most (prefix_len is_space text)
    → n ≤ length text
spaces_within text most n is = omega (arith, is, prefix_len-le-length is_space text)

both : (a b : Bool) → (a && b) ≡ true → (a ≡ true) × (b ≡ true)
both true b e = (refl, e)
both false b e = absurd cc

range : (b : ℕ) → is_ascii_digit b ≡ true → (48 ≤ b) × (b ≤ 57)
range b e =
    let parts = both (nat_le 48 b) (nat_le b 57) e in
    (leb-true 48 b parts.0, leb-true b 57 parts.1)

pub digit_found : (text : Text) (at : ℕ) → at < length text
    → is_ascii_digit (get_or text at 0) ≡ true → IsDigitAt text at (Some (get_or text at 0 - 48))
digit_found text at inside is =
    let bounds = range (get_or text at 0) is in
    let value : digit_value (get_or text at 0) + 48 ≡ get_or text at 0 =
    digit_value_digit (get_or text at 0) bounds in (
      inside,
      omega (arith, value),
      omega (arith, bounds),
      prefix_len-drop_yes is_ascii_digit text at 0 inside is,
    )

pub digit_lacks : (text : Text) (at : ℕ) → at < length text
    → is_ascii_digit (get_or text at 0) ≡ false → IsDigitAt text at None
digit_lacks text at inside is = prefix_len-drop_no is_ascii_digit text at 0 inside is

pub digit_ends : (text : Text) (at : ℕ) → length text ≤ at → IsDigitAt text at None
digit_ends text at outside = prefix_len-drop_all is_ascii_digit text at outside

pub space_ends : (text : Text) (at : ℕ) → length text ≤ at → IsSpaceAt text at false
space_ends text at outside = prefix_len-drop_all is_space text at outside

pub space_is : (text : Text) (at : ℕ) (s : Bool) → at < length text → s ≡ (get_or text at 0 == 32)
    → IsSpaceAt text at s
space_is text at true inside is = prefix_len-drop_yes is_space text at 0 inside (sym is)
space_is text at false inside is = prefix_len-drop_no is_space text at 0 inside (sym is)

-- one digit more

ten : (n : ℕ) → n ≤ 23 → 10 ^ n ≤ 10 ^ 23
ten n h = pow-le-pow_right (omega arith) h

next_ten : (n : ℕ) → 10 ^ (n + 1) ≡ 10 ^ n * 10
next_ten n = ap (λ (k : ℕ). 10 ^ k) (add-one n) ∙ pow-suc 10 n

pub next_small : (v d n : ℕ) → v < 10 ^ n → d ≤ 9 → v * 10 + d < 10 ^ (n + 1)
next_small v d n small digit = omega (arith, small, digit, next_ten n)

pub all_small : (v n : ℕ) → v < 10 ^ n → n ≤ 23 → v < 10 ^ 23
all_small v n small few = omega (arith, small, ten n few)

pub next_value : (text : Text) (v d n : ℕ) → n < length text → v ≡ digits_value 10 (take n text)
    → d ≡ digit_value (get_or text n 0) → v * 10 + d ≡ digits_value 10 (take (n + 1) text)
next_value text v d n inside value digit =
    ap (λ (x : ℕ). x * 10 + d) value ∙ ap (λ (x : ℕ). digits_value 10 (take n text) * 10 + x) digit
    ∙ sym (digits_value_more 10 text n inside)

-- two digits, and four

pub two_found : (text : Text) (a b : ℕ) → IsDigitAt text 0 (Some a) → IsDigitAt text 1 (Some b)
    → digits 2 2 text ≡ Some (a * 10 + b, 2)
two_found text a b first second =
    let all : min 2 (prefix_len is_ascii_digit text) ≡ 2 = omega (arith, first.3, second.3) in
    let one : a ≡ digits_value 10 (take 1 text) =
    sym (zero-add a) ∙ next_value text 0 a 0 first.0 refl first.1 in
    let two = next_value text a b 1 second.0 one second.1 in
    ap (λ n. enough 2 n text) all ∙ ap (λ v. Some (v, 2)) (sym two)

pub four_found : (text : Text) (a b c d : ℕ) → IsDigitAt text 0 (Some a) → IsDigitAt text 1 (Some b)
    → IsDigitAt text 2 (Some c) → IsDigitAt text 3 (Some d)
    → digits 4 4 text ≡ Some (((a * 10 + b) * 10 + c) * 10 + d, 4)
four_found text a b c d first second third fourth =
    let all : min 4 (prefix_len is_ascii_digit text) ≡ 4 =
    omega (arith, first.3, second.3, third.3, fourth.3) in
    let one : a ≡ digits_value 10 (take 1 text) =
    sym (zero-add a) ∙ next_value text 0 a 0 first.0 refl first.1 in
    let two = next_value text a b 1 second.0 one second.1 in
    let three = next_value text (a * 10 + b) c 2 third.0 two third.1 in
    let four = next_value text ((a * 10 + b) * 10 + c) d 3 fourth.0 three fourth.1 in
    ap (λ n. enough 4 n text) all ∙ ap (λ v. Some (v, 4)) (sym four)

-- A text that begins with a digit has no sign.
sign_none : (b n : ℕ) (bytes : Text) (minus plus : Bool) → (b == 45) ≡ minus → (b == 43) ≡ plus
    → prefix_len is_ascii_digit (b ∷ bytes) ≡ 1 + n
    → (if minus then Some true else (if plus then Some false else None)) ≡ None
sign_none b n bytes false false is is2 digit = refl
sign_none b n bytes true plus is is2 digit =
    absurd (omega (arith, subst (λ x. prefix_len is_ascii_digit (x ∷ bytes) ≡ 1 + n) (eqb-true b 45 is) digit))
sign_none b n bytes false true is is2 digit =
    absurd (omega (arith, subst (λ x. prefix_len is_ascii_digit (x ∷ bytes) ≡ 1 + n) (eqb-true b 43 is2) digit))

pub digit_unsigned : (text : Text) (a : ℕ) → IsDigitAt text 0 (Some a) → sign_in text ≡ None
digit_unsigned [] a first = refl
digit_unsigned (b ∷ bytes) a first =
    sign_none b (prefix_len is_ascii_digit bytes) bytes (b == 45) (b == 43) refl refl first.3
