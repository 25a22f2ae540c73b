-- Each escaped character is read back.
use Rattle.std.proofs.Common.{◌≡◌, ℕ, suc, ◌+◌, ◌-◌, ◌/◌, ◌%◌, ◌<◌, ◌≤◌, true, false, cond, ◌==◌, ◌||◌, nat_lt, List, [], ◌∷◌, ◌++◌, length, get_or, Option, Some, None, chars, flat_map, refl, sym, ap, ◌∙◌, subst, inl, inr, ◌⊎◌, arith, IsUtf8, append_assoc, append-nil, eqb-true, ltb-true, ltb-false}
use Rattle.std.proofs.lemmas.Bool.{true≢false, cases_Bool, cases_lt, ne_eqb, le-ltb, eqb-false, or_parts, and_parts}
use Rattle.std.proofs.lemmas.Bool.Decides.{nat_tests}
use Rattle.std.proofs.lemmas.Str.{encode_ascii, encodes-chars, scalars-chars, inside_one}
use Rattle.std.specs.Char.{encode_utf8}
use Rattle.std.specs.Str.{all_scalars, encode_utf8_all}
use Rattle.json.specs.Text.{content, plain, after_high, prepend, short_escape, is_high_surrogate, is_low_surrogate, surrogate_pair}
use Rattle.json.specs.Lex.{lex, in_string}
use Rattle.timefd_parse.specs.Tree.{Text}
use Rattle.timefd_lint_drawing.specs.Json.{all_escaped, escaped, unit, units}
use Rattle.timefd_lint_drawing.specs.Shown.{is_hidden}
use Rattle.timefd_web.proofs.JsonLawLemmas.Units.{unit_read, low_read, stays, unit_lexed}
use lib.Utf8.{scalar, scalar_cases}

-- In a string these bytes stand for the others.
pub record Passes (bytes others : Text) : Type 0 where
  pub read : (rest : Text) → content plain (bytes ++ rest) ≡ prepend others (content plain rest)
  pub lexed : (rest : Text) → lex in_string (bytes ++ rest) ≡ lex in_string rest

prepended : (a b : Text) (o : Option Text) → prepend a (prepend b o) ≡ prepend (a ++ b) o
prepended a b None = refl
prepended a b (Some s) = ap Some (sym (append_assoc a b s))

nothing_before : (o : Option Text) → o ≡ prepend [] o
nothing_before None = refl
nothing_before (Some s) = refl

pub none : Passes [] []
none = record { read = λ rest. nothing_before (content plain rest); lexed = λ rest. refl }

pub both : (a b x y : Text) → Passes a x → Passes b y → Passes (a ++ b) (x ++ y)
both a b x y p q = record {
  read = λ rest.
      ap (content plain) (append_assoc a b rest) ∙ p.read (b ++ rest) ∙ ap (prepend x) (q.read rest)
      ∙ prepended x y (content plain rest);
  lexed = λ rest. ap (lex in_string) (append_assoc a b rest) ∙ p.lexed (b ++ rest) ∙ q.lexed rest;
}

-- A byte that isn't a control character, a quote or a backslash stands for itself.
pub itself : (x : ℕ) → (x ≡ 34 → ⊥) → (x ≡ 92 → ⊥) → 32 ≤ x → Passes (x ∷ []) (x ∷ [])
unfolding content
itself x quote back printed = record {
  read = λ rest. rw (ne_eqb x 34 quote, ne_eqb x 92 back, le-ltb x 32 printed);
  lexed = λ rest. stays x rest quote back;
}

high_bytes : (xs : Text) → ((k : ℕ) → k < length xs → 128 ≤ get_or xs k 0) → Passes xs xs
high_bytes [] h = none
high_bytes (x ∷ xs) h =
    let high : 128 ≤ x = h 0 (omega arith) in
    both (x ∷ []) xs (x ∷ []) xs (itself x (λ e. omega arith) (λ e. omega arith) (omega arith))
    (high_bytes xs (λ k below. h (suc k) (omega arith)))

-- A character that isn't ASCII stands for itself.
other : (c : ℕ) → 128 ≤ c → Passes (encode_utf8 c) (encode_utf8 c)
other c big = high_bytes (encode_utf8 c) (λ k below. elim (cases_lt (get_or (encode_utf8 c) k 0) 128) [
  | inl low ↦ absurd (omega (arith, inside_one c [] (encode_utf8 c) k (sym (append-nil _)) below low))
  | inr h ↦ h
])

quote_passes : Passes (92 ∷ 34 ∷ []) (34 ∷ [])
unfolding content lex short_escape
quote_passes = record { read = λ rest. refl; lexed = λ rest. refl }

back_passes : Passes (92 ∷ 92 ∷ []) (92 ∷ [])
unfolding content lex short_escape
back_passes = record { read = λ rest. refl; lexed = λ rest. refl }

marked : (c : ℕ) → ((c == 34) || (c == 92)) ≡ true → Passes (92 ∷ c ∷ []) (encode_utf8 c)
marked c is = elim (cases_Bool (c == 34)) [
  | inl quote ↦ subst (λ d. Passes (92 ∷ d ∷ []) (encode_utf8 d)) (sym (eqb-true c 34 quote))
      (subst (Passes (92 ∷ 34 ∷ [])) (sym (encode_ascii 34 (omega arith))) quote_passes)
  | inr none ↦ subst (λ d. Passes (92 ∷ d ∷ []) (encode_utf8 d)) (sym (eqb-true c 92 (rw none at is)))
      (subst (Passes (92 ∷ 92 ∷ [])) (sym (encode_ascii 92 (omega arith))) back_passes)
]

high_is : (c : ℕ) → 0xD800 ≤ c → c < 0xDC00 → is_high_surrogate c ≡ true
high_is c a b = grind (arith, nat_tests)

low_is : (c : ℕ) → 0xDC00 ≤ c → c < 0xE000 → is_low_surrogate c ≡ true
low_is c a b = grind (arith, nat_tests)

not_high : (c : ℕ) → (c < 0xD800) ⊎ (0xDC00 ≤ c) → is_high_surrogate c ≡ false
not_high c h = grind (arith, nat_tests)

not_low : (c : ℕ) → (c < 0xDC00) ⊎ (0xE000 ≤ c) → is_low_surrogate c ≡ false
not_low c h = grind (arith, nat_tests)

no_high : (c : ℕ) → scalar c ≡ true → is_high_surrogate c ≡ false
no_high c is = elim (scalar_cases c is) [
  | inl low ↦ not_high c (inl low)
  | inr ends ↦ not_high c (inr (omega (arith, ends.0)))
]

no_low : (c : ℕ) → scalar c ≡ true → is_low_surrogate c ≡ false
no_low c is = elim (scalar_cases c is) [
  | inl low ↦ not_low c (inl (omega arith))
  | inr ends ↦ not_low c (inr ends.0)
]

one_unit : (c : ℕ) → scalar c ≡ true → c < 65536 → Passes (unit c ++ []) (encode_utf8 c)
one_unit c is small = record {
  read = λ rest.
      ap (content plain) (append_assoc (unit c) [] rest) ∙ unit_read c rest small
      ∙ (λ i. cond (no_high c is i) (content (after_high c) rest)
      (cond (no_low c is i) None (prepend (encode_utf8 c) (content plain rest))));
  lexed = λ rest. ap (lex in_string) (append_assoc (unit c) [] rest) ∙ unit_lexed c rest small;
}

two_units : (high low c : ℕ) → 0xD800 ≤ high → high < 0xDC00 → 0xDC00 ≤ low → low < 0xE000
    → surrogate_pair high low ≡ c → Passes (unit high ++ (unit low ++ [])) (encode_utf8 c)
two_units high low c a b d e pair = record {
  read = λ rest.
      ap (content plain) (append_assoc (unit high) (unit low ++ []) rest) ∙ unit_read high _ (omega arith)
      ∙ ap (λ t. cond t (content (after_high high) ((unit low ++ []) ++ rest)) (cond (is_low_surrogate high) None
      (prepend (encode_utf8 high) (content plain ((unit low ++ []) ++ rest))))) (high_is high a b)
      ∙ ap (content (after_high high)) (append_assoc (unit low) [] rest)
      ∙ low_read high low rest (omega arith)
      ∙ ap (λ t. cond t (prepend (encode_utf8 (surrogate_pair high low)) (content plain rest)) None) (low_is low d e)
      ∙ ap (λ p. prepend (encode_utf8 p) (content plain rest)) pair;
  lexed = λ rest.
      ap (lex in_string) (append_assoc (unit high) (unit low ++ []) rest) ∙ unit_lexed high _ (omega arith)
      ∙ ap (lex in_string) (append_assoc (unit low) [] rest) ∙ unit_lexed low rest (omega arith);
}

units_pass : (c : ℕ) → scalar c ≡ true → c < 1114112 → Passes (units c) (encode_utf8 c)
units_pass c is small = elim (cases_Bool (nat_lt c 0x1_0000)) [
  | inl low ↦ rw low (one_unit c is (ltb-true c 0x1_0000 low))
  | inr high ↦
      let above : 0x1_0000 ≤ c = ltb-false c 0x1_0000 high in
      rw high (two_units (0xD800 + (c - 0x1_0000) / 0x400) (0xDC00 + (c - 0x1_0000) % 0x400) c (omega arith)
      (omega arith) (omega arith) (omega arith) (omega arith))
]

within : (c : ℕ) → scalar c ≡ true → c < 1114112
within c is = elim (scalar_cases c is) [
  | inl low ↦ omega arith
  | inr ends ↦ ends.1
]

below_space : (c : ℕ) → c < 32 → is_hidden c ≡ true
below_space c small = grind (arith, nat_tests)

printed : (c : ℕ) → is_hidden c ≡ false → 32 ≤ c
printed c clear = elim (cases_lt c 32) [
  | inl low ↦ absurd (true≢false (sym (below_space c low) ∙ clear))
  | inr is ↦ is
]

clear_passes : (c : ℕ) → ((c == 34) || (c == 92)) ≡ false → is_hidden c ≡ false → Passes (encode_utf8 c) (encode_utf8 c)
clear_passes c unmarked clear =
    let tests = or_parts (c == 34) (c == 92) unmarked in
    elim (cases_lt c 128) [
      | inl small ↦ subst (λ t. Passes t t) (sym (encode_ascii c small))
          (itself c (eqb-false c 34 tests.0) (eqb-false c 92 tests.1) (printed c clear))
      | inr big ↦ other c big
    ]

char_passes : (c : ℕ) → scalar c ≡ true → Passes (escaped c) (encode_utf8 c)
char_passes c is = elim (cases_Bool ((c == 34) || (c == 92))) [
  | inl yes_marked ↦ rw yes_marked (marked c yes_marked)
  | inr unmarked ↦ rw unmarked (elim (cases_Bool (is_hidden c)) [
    | inl hidden ↦ rw hidden (units_pass c is (within c is))
    | inr clear ↦ rw clear (clear_passes c unmarked clear)
  ])
]

all_pass : (cs : List ℕ) → all_scalars cs ≡ true → Passes (flat_map escaped cs) (encode_utf8_all cs)
all_pass [] are = none
all_pass (c ∷ cs) are =
    let parts = and_parts (scalar c) (all_scalars cs) are in
    both (escaped c) (flat_map escaped cs) (encode_utf8 c) (encode_utf8_all cs) (char_passes c parts.0)
    (all_pass cs parts.1)

pub text_passes : (text : Text) → IsUtf8 text → Passes (all_escaped text) text
text_passes text utf8 =
    subst (Passes (all_escaped text)) (encodes-chars text utf8) (all_pass (chars text) (scalars-chars text utf8))
