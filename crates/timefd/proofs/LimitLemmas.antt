-- Words that name a limit, as Rust reads numbers.
use Rattle.std.proofs.Common.{ℕ, ◌≡◌, ◌≢◌, ◌<◌, ◌≤◌, ◌&&◌, ◌==◌, Bool, true, false, [], ◌∷◌, length, get_or, nat_le, if◌then◌else◌, Option, Some, None, Result, Ok, Err, refl, sym, ap, subst, ◌∙◌, arith, leb-true}
use Rattle.std.specs.Char.{is_ascii_digit}
use Rattle.std.specs.Result.{result_ok}
use Rattle.std.specs.Str.{all_ascii_digits}
use Rattle.std.specs.Str.Parse.{ParsesUnsigned, digits_value}
use Rattle.std.proofs.lemmas.Bool.{and_from, and_parts, eqb-true}
use Rattle.std.proofs.lemmas.Bool.Decides.{nat_tests}
use Rattle.std.proofs.lemmas.Str.Parse.{IsNumeralModel, numerals_by_value, tells_all_ascii_digits, parse_plain}
use Rattle.timefd_parse.specs.Tree.{Text}
use Rattle.timefd.specs.Arguments.{is_limit, limit_named}

own : IsNumeralModel (λ ds. all_ascii_digits ds ≡ true) (digits_value 10)
own = numerals_by_value _ tells_all_ascii_digits

record NamesLimit (word : Text) : Type 0 where
  some : 1 ≤ length word
  few : length word ≤ 3
  digits : all_ascii_digits word ≡ true
  small : digits_value 10 word ≤ 127

is_at_most : (a b : ℕ) → a ≤ b → nat_le a b ≡ true
is_at_most a b h = grind (arith, nat_tests)

named : (word : Text) → NamesLimit word → limit_named word ≡ Some (digits_value 10 word)
named word n = subst (λ t. ◌≡◌ {A = Option ℕ} (if t then Some (digits_value 10 word) else None)
    (Some (digits_value 10 word))) (sym is) refl
  where
    is : is_limit word ≡ true
    is = and_from _ _ (and_from _ _ (and_from _ _ (is_at_most _ _ n.some) (is_at_most _ _ n.few)) n.digits)
        (is_at_most _ _ n.small)

unnamed : (word : Text) → (NamesLimit word → ⊥) → limit_named word ≡ None
unnamed word not = by (is_limit word) refl
  where
    by : (t : Bool) → is_limit word ≡ t
        → ◌≡◌ {A = Option ℕ} (if t then Some (digits_value 10 word) else None) None
    by false e = refl
    by true e =
        let abc = and_parts (nat_le 1 (length word) && nat_le (length word) 3 && all_ascii_digits
        word) (nat_le (digits_value 10 word) 127) e in
        let ab = and_parts (nat_le 1 (length word) && nat_le (length word) 3)
        (all_ascii_digits word) abc.0 in
        let a = and_parts (nat_le 1 (length word)) (nat_le (length word) 3) ab.0 in
        absurd (not (record {
          some = leb-true 1 (length word) a.0;
          few = leb-true (length word) 3 a.1;
          digits = ab.1;
          small = leb-true (digits_value 10 word) 127 abc.1;
        }))

pub too_long : (word : Text) → 3 < length word → None ≡ limit_named word
too_long word long = sym (unnamed word (λ n. omega (arith, n.few, long)))

-- what a test of the first byte says
pub sign : (word : Text) (t : Bool) → t ≡ (get_or word 0 0 == 43) → t ≡ true → get_or word 0 0 ≡ 43
sign word t is plus = eqb-true (get_or word 0 0) 43 (sym is ∙ plus)

pub no_sign : (word : Text) (t : Bool) → t ≡ (get_or word 0 0 == 43) → t ≡ false
    → get_or word 0 0 ≢ 43
no_sign word t is no_plus same =
    let bad : true ≡ false = subst (λ x. (x == 43) ≡ false) same (sym is ∙ no_plus) in absurd cc

pub signed : (word : Text) → get_or word 0 0 ≡ 43 → None ≡ limit_named word
signed [] e = absurd (omega (arith, e))
signed (b ∷ rest) e =
    sym (unnamed (b ∷ rest) (λ n. let bad : false ≡ true =
    subst (λ x. (is_ascii_digit x && all_ascii_digits rest) ≡ true) e n.digits in absurd cc))

pub unread : {E : Type 0} (word : Text) (r : Result ℕ E) → get_or word 0 0 ≢ 43
    → ParsesUnsigned 8 10 word r → None ≡ result_ok r → None ≡ limit_named word
unread word (Ok n) plain p e = absurd cc
unread word (Err x) plain p e =
    sym (unnamed word (λ n. parse_plain own 8 word (Err x) p plain (
      n.digits,
      omega (arith, n.some),
      omega (arith, n.small),
    )))

pub read : {E : Type 0} (word : Text) (r : Result ℕ E) (n : ℕ) → get_or word 0 0 ≢ 43
    → length word ≤ 3 → ParsesUnsigned 8 10 word r → Some n ≡ result_ok r → n ≤ 127
    → Some n ≡ limit_named word
read word (Err x) n plain few p e small = absurd cc
read word (Ok m) n plain few p e small =
    let k = parse_plain own {E = ℕ} 8 word (Ok m) p plain in
    let same : n ≡ m = cc in
    let is : n ≡ digits_value 10 word = same ∙ k.1 in
    ap Some is ∙
    sym (named word (record {
      some = omega (arith, k.0.1);
      few = few;
      digits = k.0.0;
      small =
          omega (arith, is, small);
    }))

pub too_large : {E : Type 0} (word : Text) (r : Result ℕ E) (n : ℕ) → get_or word 0 0 ≢ 43
    → ParsesUnsigned 8 10 word r → Some n ≡ result_ok r → 127 < n → None ≡ limit_named word
too_large word (Err x) n plain p e large = absurd cc
too_large word (Ok m) n plain p e large =
    let k = parse_plain own {E = ℕ} 8 word (Ok m) p plain in
    let same : n ≡ m = cc in
    sym (unnamed word (λ l. omega (arith, k.1, same, l.small, large)))
