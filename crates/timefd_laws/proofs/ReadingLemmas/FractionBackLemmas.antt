-- The digits of a second are read back.
use Rattle.std.proofs.Common.{ℕ, ◌≡◌, ◌∙◌, ◌≤◌, ◌<◌, ◌+◌, ◌-◌, ◌*◌, ◌/◌, ◌^◌, ◌++◌, ◌==◌, inl, inr, suc, nat_lt, [], ◌∷◌}
use Rattle.std.proofs.Common.{drop, length, replicate, take, Some, refl, sym, ap, subst, arith, length-append, length-drop}
use Rattle.std.proofs.Math.Nat.{add-mul, mul_assoc, pow-suc}
use Rattle.std.proofs.lemmas.Bool.{cond_both, eqb-true, ltb-false}
use Rattle.std.proofs.lemmas.Fmt.{decimal_is_IsNumeral_wide}
use Rattle.std.proofs.lemmas.Int.Digits.{digits_value-lt}
use Rattle.std.proofs.lemmas.List.{append-nil, length-replicate, take-append-drop}
use Rattle.std.proofs.lemmas.Nat.{div-mul-add}
use Rattle.std.specs.Char.{digit_value}
use Rattle.std.specs.Fmt.{decimal}
use Rattle.std.specs.Str.Parse.{AllDigits, digits_value, digits_value_after}
use Rattle.timefd_lang_component.specs.Texts.{at_least_one, before_trimmed, filled, trimmed}
use Rattle.timefd_lang_component.specs.Tree.{Text}
use Rattle.timefd_date_format.proofs.FractionLemmas.{nine}
use Rattle.timefd_modifier.specs.declared.enums.Padding.{Padding}
use Rattle.timefd_date_moment.specs.Fields.Laws.{HasNoDigit}
use Rattle.timefd_date_moment.specs.Fields.Numbers.{digits}
use Rattle.timefd_date_moment.specs.Fields.Readings.{unit}
use Rattle.timefd_date_moment.proofs.FieldsLemmas.BackLemmas.{zeros_digits, zeros_value}
use Rattle.timefd_date_moment.proofs.FieldsLemmas.EndedLemmas.{digits_back}

-- values

step : (n d p q : ℕ) → q ≡ p * 10 → (n * 10 + d) * p ≡ n * q + d * p
step n d p q e =
    let moved : n * 10 * p ≡ n * (p * 10) = mul_assoc n 10 p ∙ ap (λ (x : ℕ). n * x) (omega arith) in
    add-mul (n * 10) d p ∙ ap (λ (x : ℕ). x + d * p) (moved ∙ ap (λ (x : ℕ). n * x) (sym e))

after : (n : ℕ) (xs : Text) → digits_value_after 10 n xs ≡ n * 10 ^ length xs + digits_value 10 xs
after n [] = omega arith
after n (c ∷ cs) =
    let p = 10 ^ length cs in
    let moved : (n * 10 + digit_value c) * p ≡ n * 10 ^ length (c ∷ cs) + digit_value c * p =
    step n (digit_value c) p (10 ^ length (c ∷ cs)) (pow-suc 10 (length cs)) in
    let first : digits_value_after 10 (0 * 10 + digit_value c) cs ≡ digit_value c * p + digits_value 10 cs =
    ap (λ (x : ℕ). digits_value_after 10 x cs) (omega arith) ∙ after (digit_value c) cs in
    after (n * 10 + digit_value c) cs ∙ omega (arith, moved, first)

after_both : (n : ℕ) (xs ys : Text)
    → digits_value_after 10 n (xs ++ ys) ≡ digits_value_after 10 (digits_value_after 10 n xs) ys
after_both n [] ys = refl
after_both n (x ∷ xs) ys = after_both (n * 10 + digit_value x) xs ys

value_both : (xs ys : Text)
    → digits_value 10 (xs ++ ys) ≡ digits_value 10 xs * 10 ^ length ys + digits_value 10 ys
value_both xs ys = after_both 0 xs ys ∙ after (digits_value 10 xs) ys

all_front : (xs ys : Text) → AllDigits 10 (xs ++ ys) → AllDigits 10 xs
all_front [] ys h = tt
all_front (x ∷ xs) ys h = (h.0, all_front xs ys h.1)

all_back : (xs ys : Text) → AllDigits 10 (xs ++ ys) → AllDigits 10 ys
all_back [] ys h = h
all_back (x ∷ xs) ys h = all_back xs ys h.1

-- the nine digits of a number of nanoseconds
pub record AreNine (n : ℕ) (ds : Text) : Type 0 where
  pub all : AllDigits 10 ds
  pub nine : length ds ≡ 9
  pub value : digits_value 10 ds ≡ n

pub nine_digits : (n : ℕ) → n ≤ 999999999 → AreNine n (filled Padding.Zero 9 n)
nine_digits n h =
    let of = decimal_is_IsNumeral_wide n (omega (arith, h)) in
    let k = 9 - length (decimal n) in
    record {
      all = zeros_digits k (decimal n) of.0.1;
      nine = nine n h;
      value = zeros_value k (decimal n) ∙ of.1;
    }

-- The first of the nine digits are those of the number that is cut off there.
cut_by : (a b ds : Text) (n k : ℕ) → AreNine n ds → ds ≡ a ++ b → length b ≡ k
    → digits_value 10 a ≡ n / 10 ^ k
cut_by a b ds n k h e is =
    let whole : n ≡ digits_value 10 a * 10 ^ k + digits_value 10 b =
    sym h.value ∙ ap (λ xs. digits_value 10 xs) e ∙ value_both a b
    ∙ ap (λ (j : ℕ). digits_value 10 a * 10 ^ j + digits_value 10 b) is in
    let all : AllDigits 10 (a ++ b) = subst (λ (xs : Text). AllDigits 10 xs) e h.all in
    let below : digits_value 10 b < 10 ^ k =
    subst (λ (j : ℕ). digits_value 10 b < 10 ^ j) is (digits_value-lt 10 b (all_back a b all)) in
    sym (div-mul-add (digits_value 10 a) (10 ^ k) (digits_value 10 b) below)
    ∙ ap (λ (x : ℕ). x / 10 ^ k) (sym whole)

pub unit_is : (k : ℕ) → unit k ≡ 10 ^ (9 - k)
unit_is k =
    cond_both (nat_lt k 9) (10 ^ (9 - k)) 1 (λ (x : ℕ). x ≡ 10 ^ (9 - k)) (λ e. refl) (λ e.
    let none : 0 ≡ 9 - k = omega (arith, ltb-false k 9 e) in
    ap (λ (j : ℕ). 10 ^ j) none)

first_len : (k n : ℕ) → k ≤ 9 → n ≤ 999999999 → length (take k (filled Padding.Zero 9 n)) ≡ k
first_len k n h small =
    let ds = filled Padding.Zero 9 n in
    omega (
      arith,
      h,
      (nine_digits n small).nine,
      length-drop k ds,
      ap length (take-append-drop k ds),
      length-append (take k ds) (drop k ds),
    )

-- The first k digits are read as the number that is cut off after them, whatever follows.
pub first_digits : (k n : ℕ) (rest : Text) → k ≤ 9 → n ≤ 999999999
    → digits k k (take k (filled Padding.Zero 9 n) ++ rest)
    ≡ Some (digits_value 10 (take k (filled Padding.Zero 9 n)), length (take k (filled Padding.Zero 9 n)))
first_digits k n rest h small =
    let ds = filled Padding.Zero 9 n in
    let len = first_len k n h small in
    digits_back k k (take k ds) rest
    (all_front (take k ds) (drop k ds)
    (subst (λ (xs : Text). AllDigits 10 xs) (sym (take-append-drop k ds)) (nine_digits n small).all))
    (omega (arith, len)) (omega (arith, len)) (inl (sym len))

pub first_value : (k n : ℕ) → k ≤ 9 → n ≤ 999999999
    → digits_value 10 (take k (filled Padding.Zero 9 n)) * unit (length (take k (filled Padding.Zero 9 n)))
    ≡ n / unit k * unit k
first_value k n h small =
    let ds = filled Padding.Zero 9 n in
    let is = nine_digits n small in
    let after : length (drop k ds) ≡ 9 - k = omega (arith, is.nine, length-drop k ds) in
    let value : digits_value 10 (take k ds) ≡ n / unit k =
    cut_by (take k ds) (drop k ds) ds n (9 - k) is (sym (take-append-drop k ds)) after
    ∙ ap (λ (x : ℕ). n / x) (sym (unit_is k)) in
    λ i. value i * unit (first_len k n h small i)

-- Zeros at the end are left out.

pub record Zeros (ds front : Text) : Type 0 where
  pub count : ℕ
  pub split : ds ≡ front ++ replicate count 48

one_before : (b : ℕ) (bs front : Text) → Zeros bs front → Zeros (b ∷ bs) (before_trimmed b front)
one_before b bs (c ∷ cs) z = record { count = z.count; split = ap (λ xs. b ∷ xs) z.split }
one_before b bs [] z =
    cond_both (b == 48) [] (b ∷ []) (λ xs. Zeros (b ∷ bs) xs)
    (λ e. record { count = suc z.count; split = (λ i. eqb-true b 48 e i ∷ z.split i) })
    (λ e. record { count = z.count; split = ap (λ xs. b ∷ xs) z.split })

zeros_left : (ds : Text) → Zeros ds (trimmed ds)
zeros_left [] = record { count = 0; split = refl }
zeros_left (b ∷ bs) = one_before b bs (trimmed bs) (zeros_left bs)

only_zeros : (k : ℕ) → digits_value 10 (replicate k 48) ≡ 0
only_zeros k = ap (λ xs. digits_value 10 xs) (sym (append-nil (replicate k 48))) ∙ zeros_value k []

-- what is left of the nine digits, at least one
least_back : (ds front rest : Text) (n : ℕ) → AreNine n ds → Zeros ds front → HasNoDigit rest
    → digits 1 9 (at_least_one front ++ rest)
    ≡ Some (digits_value 10 (at_least_one front), length (at_least_one front))
least_back ds [] rest n is z ends = digits_back 1 9 (48 ∷ []) rest (omega arith, tt) (omega arith) (omega arith) (inr ends)
least_back ds (c ∷ cs) rest n is z ends =
    digits_back 1 9 (c ∷ cs) rest
    (all_front (c ∷ cs) (replicate z.count 48) (subst (λ (xs : Text). AllDigits 10 xs) z.split is.all))
    (omega arith)
    (omega (arith, is.nine, ap length z.split, length-append (c ∷ cs) (replicate z.count 48))) (inr ends)

value_left : (ds front : Text) (n : ℕ) → AreNine n ds → Zeros ds front
    → n ≡ digits_value 10 front * unit (length {A = ℕ} front)
value_left ds front n is z =
    let long : length front + z.count ≡ 9 = omega (
      arith,
      is.nine,
      ap length z.split,
      length-append front (replicate z.count 48),
      length-replicate {A = ℕ} z.count 48,
    ) in
    let power : 10 ^ length {A = ℕ} (replicate z.count 48) ≡ unit (length front) =
    ap (λ (j : ℕ). 10 ^ j) (omega (arith, long, length-replicate {A = ℕ} z.count 48))
    ∙ sym (unit_is (length front)) in
    sym is.value ∙ ap (λ xs. digits_value 10 xs) z.split ∙ value_both front (replicate z.count 48)
    ∙ ap (λ (x : ℕ). digits_value 10 front * 10 ^ length {A = ℕ} (replicate z.count 48) + x) (only_zeros z.count)
    ∙ omega arith ∙ ap (λ (x : ℕ). digits_value 10 front * x) power

least_value : (ds front : Text) (n : ℕ) → AreNine n ds → Zeros ds front
    → digits_value 10 (at_least_one front) * unit (length (at_least_one front)) ≡ n
least_value ds [] n is z = omega (arith, value_left ds [] n is z)
least_value ds (c ∷ cs) n is z = sym (value_left ds (c ∷ cs) n is z)

pub trimmed_back : (n : ℕ) (rest : Text) → n ≤ 999999999 → HasNoDigit rest
    → digits 1 9 (at_least_one (trimmed (filled Padding.Zero 9 n)) ++ rest)
    ≡ Some (
      digits_value 10 (at_least_one (trimmed (filled Padding.Zero 9 n))),
      length (at_least_one (trimmed (filled Padding.Zero 9 n))),
    )
trimmed_back n rest small ends =
    let ds = filled Padding.Zero 9 n in
    least_back ds (trimmed ds) rest n (nine_digits n small) (zeros_left ds) ends

pub trimmed_value : (n : ℕ) → n ≤ 999999999
    → digits_value 10 (at_least_one (trimmed (filled Padding.Zero 9 n)))
    * unit (length (at_least_one (trimmed (filled Padding.Zero 9 n)))) ≡ n / unit 9 * unit 9
trimmed_value n small =
    let ds = filled Padding.Zero 9 n in
    least_value ds (trimmed ds) n (nine_digits n small) (zeros_left ds) ∙ omega arith
