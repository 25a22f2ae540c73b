-- A text in quotes is UTF-8.
use Rattle.std.proofs.Common.{◌≡◌, ℕ, ◌+◌, ◌-◌, ◌/◌, ◌%◌, ◌<◌, true, ◌==◌, ◌&&◌, ◌||◌, nat_lt, List, [], ◌∷◌, ◌++◌, chars, flat_map, refl, sym, inl, inr, subst, arith, IsUtf8, eqb-true, ltb-true}
use Rattle.std.proofs.lemmas.Bool.{cases_Bool, and_parts, lt-ltb}
use Rattle.std.proofs.lemmas.Str.{IsUtf8-append, IsUtf8-nil, IsUtf8-encode, scalars-chars}
use Rattle.std.specs.Str.{all_scalars}
use Rattle.json.proofs.Printed.Utf8.{IsUtf8-are_ascii}
use Rattle.timefd_parse.specs.Tree.{Text}
use Rattle.timefd_lint_drawing.specs.Json.{all_escaped, escaped, hex_digit, quoted, unit, units}
use Rattle.timefd_lint_drawing.specs.Shown.{is_hidden}
use lib.Utf8.{scalar, scalar_cases}

below : (n : ℕ) → n < 16 → nat_lt (hex_digit n) 128 ≡ true
below n small = lt-ltb (hex_digit n) 128 (elim (cases_Bool (nat_lt n 10)) [
  | inl is ↦ rw is (omega (arith, ltb-true n 10 is))
  | inr other ↦ rw other (omega arith)
])

unit_utf8 : (u : ℕ) → u < 65536 → IsUtf8 (unit u)
unit_utf8 u small = IsUtf8-are_ascii (unit u) (λ i. below (u / 4096) (omega arith) i
    && (below (u / 256 % 16) (omega arith) i && (below (u / 16 % 16) (omega arith) i && (below (u % 16) (omega arith) i && true))))

units_utf8 : (c : ℕ) → c < 1114112 → IsUtf8 (units c)
units_utf8 c small = elim (cases_Bool (nat_lt c 0x1_0000)) [
  | inl low ↦ rw low (IsUtf8-append (unit c) [] (unit_utf8 c (ltb-true c 0x1_0000 low)) IsUtf8-nil)
  | inr high ↦ rw high (two (0xD800 + (c - 0x1_0000) / 0x400) (0xDC00 + (c - 0x1_0000) % 0x400) (omega arith) (omega arith))
]
  where
    two : (a b : ℕ) → a < 65536 → b < 65536 → IsUtf8 (unit a ++ (unit b ++ []))
    two a b la lb = IsUtf8-append (unit a) (unit b ++ []) (unit_utf8 a la) (IsUtf8-append (unit b) [] (unit_utf8 b lb) IsUtf8-nil)

marked_utf8 : (c : ℕ) → ((c == 34) || (c == 92)) ≡ true → IsUtf8 (92 ∷ c ∷ [])
marked_utf8 c is = elim (cases_Bool (c == 34)) [
  | inl quote ↦ subst (λ d. IsUtf8 (92 ∷ d ∷ [])) (sym (eqb-true c 34 quote)) (IsUtf8-are_ascii _ refl)
  | inr none ↦ subst (λ d. IsUtf8 (92 ∷ d ∷ [])) (sym (eqb-true c 92 (rw none at is))) (IsUtf8-are_ascii _ refl)
]

within : (c : ℕ) → scalar c ≡ true → c < 1114112
within c is = elim (scalar_cases c is) [
  | inl low ↦ omega arith
  | inr ends ↦ ends.1
]

char_utf8 : (c : ℕ) → scalar c ≡ true → IsUtf8 (escaped c)
char_utf8 c is = elim (cases_Bool ((c == 34) || (c == 92))) [
  | inl has ↦ rw has (marked_utf8 c has)
  | inr none ↦ rw none (elim (cases_Bool (is_hidden c)) [
    | inl hidden ↦ rw hidden (units_utf8 c (within c is))
    | inr clear ↦ rw clear (IsUtf8-encode c is)
  ])
]

all_utf8 : (cs : List ℕ) → all_scalars cs ≡ true → IsUtf8 (flat_map escaped cs)
all_utf8 [] are = IsUtf8-nil
all_utf8 (c ∷ cs) are =
    let parts = and_parts (scalar c) (all_scalars cs) are in
    IsUtf8-append (escaped c) (flat_map escaped cs) (char_utf8 c parts.0) (all_utf8 cs parts.1)

pub in_quotes : (bytes : Text) → IsUtf8 bytes → IsUtf8 (34 ∷ (bytes ++ 34 ∷ []))
in_quotes bytes utf8 =
    IsUtf8-append (34 ∷ []) (bytes ++ 34 ∷ []) (IsUtf8-are_ascii _ refl)
    (IsUtf8-append bytes (34 ∷ []) utf8 (IsUtf8-are_ascii _ refl))

pub quoted_utf8 : (text : Text) → IsUtf8 text → IsUtf8 (quoted text)
quoted_utf8 text utf8 = in_quotes (all_escaped text) (all_utf8 (chars text) (scalars-chars text utf8))
