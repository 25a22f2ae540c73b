-- What JSON writes for a text holds no hidden character.
use Rattle.std.proofs.Common.{Bool, true≢false, ℕ, ◌≡◌, ◌<◌, ◌≤◌, ◌+◌, ◌-◌, ◌/◌, ◌%◌, true, false, nat_lt, ◌==◌, ◌||◌, List, [], ◌∷◌, ◌++◌, chars, codes, flat_map, refl, sym, ap, subst, ◌∙◌, inl, inr, arith, ltb-true, eqb-true, IsUtf8}
use Rattle.std.proofs.lemmas.Bool.{and_parts, cases_Bool}
use Rattle.std.proofs.lemmas.Bool.Decides.{nat_tests}
use Rattle.std.proofs.lemmas.List.{append-nil}
use Rattle.std.proofs.lemmas.Str.{chars-IsAscii, chars-encodes, encode_ascii, encodes-append, scalars-chars}
use Rattle.std.specs.Prelude.{if◌then◌else◌}
use Rattle.std.specs.Char.{encode_utf8}
use Rattle.std.specs.List.{list_all}
use Rattle.std.specs.Str.{NonePass, all_scalars, encode_utf8_all}
use Rattle.timefd_lang_component.specs.Tree.{Text}
use Rattle.timefd_lint_drawing.specs.Json.{NoneIsHiddenInJson, all_escaped, escaped, hex_digit, is_plain, quoted, unit, units}
use Rattle.timefd_lint_drawing.specs.Shown.{is_hidden, is_printable}
use Rattle.timefd_lint_drawing.proofs.ShownLemmas.{all_ascii, bounds, first_scalar, joined, other_scalars, prints}

-- The bytes spell characters, and none of them is hidden.
record IsClear (bytes : Text) : Type 0 where
  all : List ℕ
  are : all_scalars all ≡ true
  spell : encode_utf8_all all ≡ bytes
  clear : NonePass is_hidden all

scalars_joined : (xs ys : List ℕ) → all_scalars xs ≡ true → all_scalars ys ≡ true
    → all_scalars (xs ++ ys) ≡ true
scalars_joined [] ys a b = b
scalars_joined (c ∷ xs) ys a b =
    joined c (xs ++ ys) (first_scalar c xs a) (scalars_joined xs ys (other_scalars c xs a) b)

none_joined : (xs ys : List ℕ) → NonePass is_hidden xs → NonePass is_hidden ys
    → NonePass is_hidden (xs ++ ys)
none_joined [] ys a b = b
none_joined (c ∷ xs) ys a b = (a.0, none_joined xs ys a.1 b)

both : (x y : Text) → IsClear x → IsClear y → IsClear (x ++ y)
both x y a b = record {
  all = a.all ++ b.all;
  are = scalars_joined a.all b.all a.are b.are;
  spell =
      encodes-append a.all b.all ∙ ap (λ t. t ++ encode_utf8_all b.all) a.spell ∙
      ap (λ t. x ++ t) b.spell;
  clear = none_joined a.all b.all a.clear b.clear;
}

none : IsClear []
none = record { all = []; are = refl; spell = refl; clear = tt }

one : (c : ℕ) → all_scalars (c ∷ []) ≡ true → is_hidden c ≡ false → IsClear (encode_utf8 c)
one c is clear = record {
  all = c ∷ [];
  are = is;
  spell = append-nil (encode_utf8 c);
  clear = (clear, tt);
}

low_scalar : (c : ℕ) → c < 0x7F → all_scalars (c ∷ []) ≡ true
low_scalar c low = grind (arith, nat_tests)

printed : (c : ℕ) (rest : Text) → 0x20 ≤ c → c < 0x7F → IsClear rest → IsClear (c ∷ rest)
printed c rest low high clear =
    let first : IsClear (c ∷ []) =
    subst IsClear (encode_ascii c (omega arith)) (one c (low_scalar c high) (prints c low high)) in
    both (c ∷ []) rest first clear

digit_low : (n : ℕ) → 0x20 ≤ hex_digit n
digit_low n = elim (cases_Bool (nat_lt n 10)) [
  | inl is ↦ rw is (omega arith)
  | inr other ↦ rw other (omega arith)
]

digit_high : (n : ℕ) → n < 16 → hex_digit n < 0x7F
digit_high n small = elim (cases_Bool (nat_lt n 10)) [
  | inl is ↦ rw is (omega (arith, ltb-true n 10 is))
  | inr other ↦ rw other (omega arith)
]

digit : (n : ℕ) (rest : Text) → n < 16 → IsClear rest → IsClear (hex_digit n ∷ rest)
digit n rest small clear = printed (hex_digit n) rest (digit_low n) (digit_high n small) clear

unit_clear : (n : ℕ) → n < 65536 → IsClear (unit n)
unit_clear n small =
    printed 92 _ (omega arith) (omega arith) (printed 117 _ (omega arith) (omega arith)
    (digit (n / 4096) _ (omega arith) (digit (n / 256 % 16) _ (omega arith)
    (digit (n / 16 % 16) _ (omega arith) (digit (n % 16) _ (omega arith) none)))))

two_units : (a b : ℕ) → a < 65536 → b < 65536 → IsClear (unit a ++ (unit b ++ []))
two_units a b first second =
    both (unit a) (unit b ++ []) (unit_clear a first) (both (unit b) [] (unit_clear b second) none)

within : (c : ℕ) → all_scalars (c ∷ []) ≡ true → c < 1114112
within c is = grind (arith, nat_tests)

units_clear : (c : ℕ) → c < 1114112 → IsClear (units c)
units_clear c small = elim (cases_Bool (nat_lt c 0x1_0000)) [
  | inl low ↦ rw low (both (unit c) [] (unit_clear c (ltb-true c 0x1_0000 low)) none)
  | inr high ↦ rw high (two_units (0xD800 + (c - 0x1_0000) / 0x400)
      (0xDC00 + (c - 0x1_0000) % 0x400) (omega arith) (omega arith))
]

backslashed : (c : ℕ) → ((c == 34) || (c == 92)) ≡ true → IsClear (92 ∷ c ∷ [])
backslashed c is = elim (cases_Bool (c == 34)) [
  | inl quote ↦ subst (λ d. IsClear (92 ∷ d ∷ [])) (sym (eqb-true c 34 quote))
      (printed 92 _ (omega arith) (omega arith) (printed 34 _ (omega arith) (omega arith) none))
  | inr other ↦ subst (λ d. IsClear (92 ∷ d ∷ []))
      (sym (eqb-true c 92 (rw other at is)))
      (printed 92 _ (omega arith) (omega arith) (printed 92 _ (omega arith) (omega arith) none))
]

escaped_clear : (c : ℕ) → all_scalars (c ∷ []) ≡ true → IsClear (escaped c)
escaped_clear c is = elim (cases_Bool ((c == 34) || (c == 92))) [
  | inl marked ↦ rw marked (backslashed c marked)
  | inr other ↦ rw other (elim (cases_Bool (is_hidden c)) [
    | inl hidden ↦ rw hidden (units_clear c (within c is))
    | inr clear ↦ rw clear (one c is clear)
  ])
]

all_clear : (cs : List ℕ) → all_scalars cs ≡ true → IsClear (flat_map escaped cs)
all_clear [] is = none
all_clear (c ∷ cs) is =
    both (escaped c) (flat_map escaped cs) (escaped_clear c (first_scalar c cs is))
    (all_clear cs (other_scalars c cs is))

quoted_clear : (text : Text) → IsUtf8 text → IsClear (quoted text)
quoted_clear text utf8 =
    printed 34 (all_escaped text ++ codes "\"") (omega arith) (omega arith)
    (both (all_escaped text) (codes "\"") (all_clear (chars text) (scalars-chars text utf8))
    (printed 34 [] (omega arith) (omega arith) none))

read : (bytes : Text) → IsClear bytes → NonePass is_hidden (chars bytes)
read bytes is =
    subst (λ t. NonePass is_hidden (chars t)) is.spell
    (subst (NonePass is_hidden) (sym (chars-encodes is.all is.are)) is.clear)

pub none_is_hidden_in_json : NoneIsHiddenInJson
none_is_hidden_in_json text utf8 = read (quoted text) (quoted_clear text utf8)

plain_parts : (x y : Bool) → (if x then false else y) ≡ true → (x ≡ false) × (y ≡ true)
plain_parts true y e = absurd (true≢false (sym e))
plain_parts false y e = (refl, e)

plain_prints : (text : Text) → list_all is_plain text ≡ true → list_all is_printable text ≡ true
plain_prints [] are = refl
plain_prints (b ∷ bytes) are =
    let parts = and_parts (is_plain b) (list_all is_plain bytes) are in
    rw (plain_parts ((b == 34) || (b == 92)) (is_printable b) parts.0).1 (plain_prints bytes parts.1)

plain_escaped : (text : Text) → list_all is_plain text ≡ true → flat_map escaped text ≡ text
plain_escaped [] are = refl
plain_escaped (b ∷ bytes) are =
    let parts = and_parts (is_plain b) (list_all is_plain bytes) are in
    let one = plain_parts ((b == 34) || (b == 92)) (is_printable b) parts.0 in
    let ends = bounds b one.1 in
    let first : escaped b ≡ b ∷ [] =
    rw one.0 (rw (prints b ends.0 ends.1) (encode_ascii b (omega (arith, ends.1)))) in
    ap (λ t. t ++ flat_map escaped bytes) first ∙ ap (λ t. b ∷ t) (plain_escaped bytes parts.1)

-- A printing text without quotes and backslashes is written in quotes as it is.
pub plain_as_it_is : (text : Text) → list_all is_plain text ≡ true → all_escaped text ≡ text
plain_as_it_is text are =
    ap (flat_map escaped) (chars-IsAscii text (all_ascii text (plain_prints text are))) ∙
    plain_escaped text are
