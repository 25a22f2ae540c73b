-- Numbers in decimal, two digits at a time.
use Rattle.std.proofs.Common.{ℕ, nat_lt, Bool, true, false, zero, suc, ◌≡◌, ◌∙◌, ◌+◌, ◌*◌, ◌-◌, ◌/◌, ◌%◌, ◌^◌, ◌<◌, ◌≤◌, [], ◌∷◌, ◌++◌, codes, length, take, drop, replicate, Option, Some, None, refl, sym, ap, subst, arith, append_assoc, append-nil, length-append}
use Rattle.std.proofs.lemmas.Fmt.{decimal_digit, decimal_step_wide}
use Rattle.std.proofs.lemmas.Bool.{ltb-true, ltb-false}
use Rattle.std.proofs.lemmas.List.{take-append-drop}
use Rattle.std.specs.Fmt.{decimal}
use Rattle.timefd_modifier.specs.declared.enums.Padding.{Padding}
use Rattle.timefd_lang_component.specs.Texts.{filled}
use Rattle.timefd_lang_component.specs.Tree.{Text}
use Rattle.timefd_date_format.specs.Puts.{Puts, pair}
use Rattle.timefd_date_format.proofs.WalkLemmas.{puts_after}

-- The digit pairs of this many consecutive numbers, from the first one on.
abbrev pairs : ℕ → ℕ → Text
pairs from zero = []
pairs from (suc n) = pair from ++ pairs (from + 1) n

pair_in : (from n k : ℕ) (h : k < n) → take 2 (drop (2 * k) (pairs from n)) ≡ pair (from + k)
pair_in from zero k h = absurd (omega (arith, h))
pair_in from (suc n) zero h = let same : from ≡ from + 0 = omega arith in ap pair same
pair_in from (suc n) (suc k) h =
    let next : 2 * suc k ≡ suc (suc (2 * k)) = omega arith in
    let same : from + 1 + k ≡ from + suc k = omega arith in
    ap (λ i. take 2 (drop i (pairs from (suc n)))) next
    ∙ pair_in (from + 1) n k (omega (arith, h)) ∙ ap pair same

-- The digits of all numbers below 100.
abbrev table : Text
table =
    codes "00010203040506070809101112131415161718192021222324252627282930313233343536373839"
    ++ (codes "40414243444546474849505152535455565758596061626364656667686970717273747576777879"
    ++ codes "8081828384858687888990919293949596979899")

whole : table ≡ pairs 0 100
whole = refl

pub pair_at : (n : ℕ) → n < 100 → take 2 (drop (2 * n) table) ≡ pair n
pair_at n h =
    let same : 0 + n ≡ n = omega arith in
    ap (λ xs. take 2 (drop (2 * n) xs)) whole ∙ pair_in 0 100 n h ∙ ap pair same

pub one_step : (n : ℕ) → 100 ≤ n → n < 10 ^ 64 → decimal n ≡ decimal (n / 100) ++ pair (n % 100)
one_step n long small =
    let front : n / 10 / 10 ≡ n / 100 = omega arith in
    let first : n / 10 % 10 ≡ n % 100 / 10 = omega arith in
    let second : n % 10 ≡ n % 100 % 10 = omega arith in
    decimal_step_wide n (omega (arith, long)) small
    ∙ ap (λ ds. ds ++ (48 + n % 10) ∷ []) (decimal_step_wide (n / 10) (omega (arith, long)) (omega (arith, small)))
    ∙ append_assoc (decimal (n / 10 / 10)) ((48 + n / 10 % 10) ∷ []) ((48 + n % 10) ∷ [])
    ∙ (λ i. decimal (front i) ++ (48 + first i) ∷ (48 + second i) ∷ [])

pub two_digits : (n : ℕ) → 10 ≤ n → n < 100 → decimal n ≡ pair n
two_digits n long short =
    decimal_step_wide n long (omega (arith, short))
    ∙ ap (λ ds. ds ++ (48 + n % 10) ∷ []) (decimal_digit (n / 10) (omega (arith, short)))

filled_by : (n : ℕ) (digits : Text) → decimal n ≡ digits → filled Padding.Zero 2 n ≡ replicate (2 - length digits) 48 ++ digits
filled_by n digits is = ap (λ ds. replicate {A = ℕ} (2 - length ds) 48 ++ ds) is

pub two_filled : (n : ℕ) → n < 100 → filled Padding.Zero 2 n ≡ pair n
two_filled n short = by (nat_lt n 10) refl
  where
    by : (b : Bool) → nat_lt n 10 ≡ b → filled Padding.Zero 2 n ≡ pair n
    by true is =
        let below : n < 10 = ltb-true n 10 is in
        let none : 0 ≡ n / 10 = omega (arith, below) in
        let same : n ≡ n % 10 = omega (arith, below) in
        filled_by n ((48 + n) ∷ []) (decimal_digit n below)
        ∙ (λ i. (48 + none i) ∷ (48 + same i) ∷ [])
    by false is = filled_by n (pair n) (two_digits n (ltb-false n 10 is) short)

pub record IsPutTo (number left : ℕ) (old new : Text) (end at : ℕ) : Type 0 where
  pub done : Text
  pub split : decimal number ≡ decimal left ++ done
  pub puts : Puts done old end new (Some at)
  pub inside : end ≤ length old

pub none_put : (number : ℕ) (old : Text) (end : ℕ) → end ≤ length old → IsPutTo number number old old end end
none_put number old end inside = record {
  done = [];
  split = sym (append-nil (decimal number));
  puts = (omega arith, sym (take-append-drop end old));
  inside = inside;
}

pub two_put : (number left : ℕ) (two old mid new : Text) (end at k : ℕ) → 100 ≤ left → left < 10 ^ 64
    → IsPutTo number left old mid end at → two ≡ pair (left % 100) → Puts two mid at new (Some k)
    → IsPutTo number (left / 100) old new end k
two_put number left two old mid new end at k long small w is one = record {
  done = two ++ w.done;
  split = w.split ∙ ap (λ x. x ++ w.done) (one_step left long small ∙ ap (λ x. decimal (left / 100) ++ x) (sym is))
      ∙ append_assoc (decimal (left / 100)) two w.done;
  puts = puts_after two w.done old mid new end at k w.inside w.puts one;
  inside = w.inside;
}

-- The digits that are left of the number are put in front, if there is room.
pub all_put : (number left : ℕ) (digits old mid new : Text) (end at : ℕ) (r : Option ℕ)
    → IsPutTo number left old mid end at → decimal left ≡ digits → Puts digits mid at new r
    → Puts (decimal number) old end new r
all_put number left digits old mid new end at (Some k) w is one =
    subst (λ x. Puts x old end new (Some k)) (sym (w.split ∙ ap (λ x. x ++ w.done) is))
    (puts_after digits w.done old mid new end at k w.inside w.puts one)
all_put number left digits old mid new end at None w is one =
    omega (arith, one, w.puts.0, ap length is, ap length w.split, length-append (decimal left) w.done)

-- If two digits have no room, the number has none.
pub no_room : (number left : ℕ) (two old mid new : Text) (end at : ℕ) → 100 ≤ left → left < 10 ^ 64
    → IsPutTo number left old mid end at → two ≡ pair (left % 100) → Puts two mid at new None
    → Puts (decimal number) old end new None
no_room number left two old mid new end at long small w is none =
    omega (
      arith,
      none,
      w.puts.0,
      ap length is,
      ap length w.split,
      length-append (decimal left) w.done,
      ap length (one_step left long small),
      length-append (decimal (left / 100)) (pair (left % 100)),
    )
