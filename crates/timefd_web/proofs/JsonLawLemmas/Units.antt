-- An escape of a UTF-16 code unit is read back, and the lexer passes over it.
use Rattle.std.proofs.Common.{◌≡◌, ℕ, ◌+◌, ◌*◌, ◌/◌, ◌%◌, ◌<◌, ◌≤◌, Bool, true, false, cond, ◌&&◌, nat_lt, List, ◌∷◌, ◌++◌, Option, Some, None, option_and_then, refl, ap, ◌∙◌, inl, inr, arith}
use Rattle.std.proofs.lemmas.Bool.{cases_Bool, ne_eqb, lt-ltb, ltb-false}
use Rattle.std.proofs.lemmas.Str.{digit_value-digit_char}
use Rattle.std.specs.Char.{digit_value, digit_char, encode_utf8}
use Rattle.json.specs.Text.{content, plain, after_high, prepend, code_unit, is_high_surrogate, is_low_surrogate, surrogate_pair}
use Rattle.json.specs.Word.{is_operator, is_space}
use Rattle.json.specs.Lex.{Lexeme, Mode, lex, lex_byte, in_string, operator, space, other}
use Rattle.timefd_parse.specs.Tree.{Text}
use Rattle.timefd_lint_drawing.specs.Json.{hex_digit, unit}

hex_char : (n : ℕ) → n < 16 → hex_digit n ≡ digit_char n
hex_char n small = elim (cases_Bool (nat_lt n 10)) [
  | inl is ↦ rw is refl
  | inr big ↦ rw big (omega (arith, ltb-false n 10 big))
]

hex_value : (n : ℕ) → n < 16 → digit_value (hex_digit n) ≡ n
hex_value n small = ap digit_value (hex_char n small) ∙ digit_value-digit_char n (omega arith)

abbrev unit_with : ℕ → ℕ → ℕ → ℕ → Option ℕ
unit_with a b c d =
    cond (nat_lt a 16 && nat_lt b 16 && nat_lt c 16 && nat_lt d 16) (Some (a * 4096 + b * 256 + c * 16 + d)) None

four_digits : (a b c d : ℕ) → a < 16 → b < 16 → c < 16 → d < 16
    → code_unit (hex_digit a) (hex_digit b) (hex_digit c) (hex_digit d) ≡ Some (a * 4096 + b * 256 + c * 16 + d)
unfolding code_unit
four_digits a b c d la lb lc ld =
    (λ i. unit_with (hex_value a la i) (hex_value b lb i) (hex_value c lc i) (hex_value d ld i))
    ∙ (λ i. cond (lt-ltb a 16 la i && lt-ltb b 16 lb i && lt-ltb c 16 lc i && lt-ltb d 16 ld i)
    (Some (a * 4096 + b * 256 + c * 16 + d)) None)

digits_sum : (u : ℕ) → u / 4096 * 4096 + u / 256 % 16 * 256 + u / 16 % 16 * 16 + u % 16 ≡ u
digits_sum u = omega arith

pub unit_is : (u : ℕ) → u < 65536
    → code_unit (hex_digit (u / 4096)) (hex_digit (u / 256 % 16)) (hex_digit (u / 16 % 16)) (hex_digit (u % 16)) ≡ Some u
unit_is u small =
    four_digits (u / 4096) (u / 256 % 16) (u / 16 % 16) (u % 16) (omega arith) (omega arith) (omega arith) (omega arith)
    ∙ ap Some (digits_sum u)

-- What follows a unit.
abbrev pub after_unit : Text → ℕ → Option Text
after_unit rest u =
    cond (is_high_surrogate u) (content (after_high u) rest)
    (cond (is_low_surrogate u) None (prepend (encode_utf8 u) (content plain rest)))

pub unit_read : (u : ℕ) (rest : Text) → u < 65536 → content plain (unit u ++ rest) ≡ after_unit rest u
unfolding content
unit_read u rest small = ap (option_and_then (after_unit rest)) (unit_is u small)

abbrev after_low : ℕ → Text → ℕ → Option Text
after_low high rest l =
    cond (is_low_surrogate l) (prepend (encode_utf8 (surrogate_pair high l)) (content plain rest)) None

pub low_read : (high u : ℕ) (rest : Text) → u < 65536 → content (after_high high) (unit u ++ rest) ≡ after_low high rest u
unfolding content
low_read high u rest small = ap (option_and_then (after_low high rest)) (unit_is u small)

inside : (o s : Bool) (x : ℕ) (rest : Text) (k : Mode → List Lexeme)
    → lex_byte in_string (cond o operator (cond s space other)) x rest k ≡ k in_string
inside true s x rest k = refl
inside false true x rest k = refl
inside false false x rest k = refl

-- The lexer stays in a string at any byte that isn't a quote or a backslash.
pub stays : (x : ℕ) (rest : Text) → (x ≡ 34 → ⊥) → (x ≡ 92 → ⊥) → lex in_string (x ∷ rest) ≡ lex in_string rest
unfolding lex
stays x rest quote back =
    rw (ne_eqb x 34 quote, ne_eqb x 92 back) (inside (is_operator x) (is_space x) x rest (λ m. lex m rest))

above : (n : ℕ) → 48 ≤ hex_digit n
above n = elim (cases_Bool (nat_lt n 10)) [
  | inl is ↦ rw is (omega arith)
  | inr big ↦ rw big (omega arith)
]

not_back : (n : ℕ) → n < 16 → hex_digit n ≡ 92 → ⊥
not_back n small = elim (cases_Bool (nat_lt n 10)) [
  | inl is ↦ rw is (λ e. omega arith)
  | inr big ↦ rw big (λ e. omega (arith, ltb-false n 10 big))
]

digit_stays : (n : ℕ) (rest : Text) → n < 16 → lex in_string (hex_digit n ∷ rest) ≡ lex in_string rest
digit_stays n rest small = stays (hex_digit n) rest (λ e. omega (arith, above n)) (not_back n small)

pub unit_lexed : (u : ℕ) (rest : Text) → u < 65536 → lex in_string (unit u ++ rest) ≡ lex in_string rest
unfolding lex
unit_lexed u rest small =
    digit_stays (u / 4096) _ (omega arith) ∙ digit_stays (u / 256 % 16) _ (omega arith)
    ∙ digit_stays (u / 16 % 16) _ (omega arith) ∙ digit_stays (u % 16) rest (omega arith)
