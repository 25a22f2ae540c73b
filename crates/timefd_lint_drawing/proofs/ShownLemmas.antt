-- A safe text holds no hidden character.
use Rattle.std.proofs.Common.{ℕ, ◌≡◌, ◌<◌, ◌≤◌, ◌+◌, ◌-◌, Bool, true, false, nat_le, nat_lt, not, ◌==◌, List, [], ◌∷◌, ◌++◌, map, chars, length, refl, sym, ap, subst, ◌∙◌, inl, inr, arith, ltb-true, get_or}
use Rattle.std.proofs.lemmas.Bool.{and_parts, cases_Bool, le-ltb, leb-true}
use Rattle.std.proofs.lemmas.Bool.Decides.{nat_tests}
use Rattle.std.proofs.lemmas.List.FromFn.{get_or-range_with_len, length-range_with_len}
use Rattle.std.proofs.lemmas.List.Sums.{AllPass-from_list_all}
use Rattle.std.proofs.lemmas.Str.{chars-IsAscii, chars-encodes, encode_ascii, scalars-chars}
use Rattle.std.proofs.lemmas.Str.Ascii.{IsAscii-cons, IsAscii-nil}
use Rattle.std.specs.Char.{encode_utf8}
use Rattle.std.specs.List.{list_all, range_with_len}
use Rattle.std.specs.Str.{IsAscii, NonePass, all_scalars, encode_utf8_all}
use Rattle.timefd_lang_component.specs.Tree.{Text}
use Rattle.timefd_lint_drawing.specs.Shown.{NoneIsHidden, cut_end, cut_start, is_hidden, is_printable, safe, shown}

-- What holds for the pictures, for the replacement character and for each character that isn't hidden, holds
-- for what is shown.
by_cases : (P : ℕ → Type 0) (c : ℕ) → (c < 0x20 → P (0x2400 + c)) → P 0x2421 → P 0xFFFD
    → (is_hidden c ≡ false → P c) → P (shown c)
by_cases P c picture delete replaced other = elim (cases_Bool (nat_lt c 0x20)) [
  | inl low ↦ rw low (picture (ltb-true c 0x20 low))
  | inr high ↦ rw high (elim (cases_Bool (c == 0x7F)) [
    | inl is ↦ rw is delete
    | inr isnt ↦ rw isnt (elim (cases_Bool (is_hidden c)) [
      | inl hidden ↦ rw hidden replaced
      | inr clear ↦ rw clear (other clear)
    ])
  ])
]

-- The pictures aren't hidden, checked one by one.
pictures : list_all (λ c. not (is_hidden (0x2400 + c))) (range_with_len 0 0x20) ≡ true
pictures = refl

pub not_true : (b : Bool) → not b ≡ true → b ≡ false
not_true true e = sym e
not_true false e = refl

picture_is_clear : (c : ℕ) → c < 0x20 → is_hidden (0x2400 + c) ≡ false
picture_is_clear c low =
    let at : get_or (range_with_len 0 0x20) c 0 ≡ c =
    omega (arith, get_or-range_with_len 0 0x20 c 0 low) in
    not_true (is_hidden (0x2400 + c)) (subst (λ n. not (is_hidden (0x2400 + n)) ≡ true) at
    (AllPass-from_list_all (λ n. not (is_hidden (0x2400 + n))) (range_with_len 0 0x20) pictures c 0
    (omega (arith, length-range_with_len 0 0x20))))

pub shown_is_clear : (c : ℕ) → is_hidden (shown c) ≡ false
shown_is_clear c =
    by_cases (λ d. is_hidden d ≡ false) c (picture_is_clear c) refl refl (λ clear. clear)

scalar_of : (c : ℕ) → c < 0xD800 → all_scalars (c ∷ []) ≡ true
scalar_of c low = grind (arith, nat_tests)

-- What is shown for a character is a character.
pub shown_scalar : (c : ℕ) → all_scalars (c ∷ []) ≡ true → all_scalars (shown c ∷ []) ≡ true
shown_scalar c is =
    by_cases (λ d. all_scalars (d ∷ []) ≡ true) c (λ low. scalar_of (0x2400 + c) (omega arith)) refl
    refl (λ clear. is)

pub first_scalar : (c : ℕ) (cs : List ℕ) → all_scalars (c ∷ cs) ≡ true → all_scalars (c ∷ []) ≡ true
first_scalar c cs is = grind (arith, nat_tests)

pub other_scalars : (c : ℕ) (cs : List ℕ) → all_scalars (c ∷ cs) ≡ true → all_scalars cs ≡ true
other_scalars c cs is = grind (arith, nat_tests)

pub joined : (c : ℕ) (cs : List ℕ) → all_scalars (c ∷ []) ≡ true → all_scalars cs ≡ true
    → all_scalars (c ∷ cs) ≡ true
joined c cs one all = grind (arith, nat_tests)

shown_scalars : (cs : List ℕ) → all_scalars cs ≡ true → all_scalars (map shown cs) ≡ true
shown_scalars [] is = refl
shown_scalars (c ∷ cs) is =
    joined (shown c) (map shown cs) (shown_scalar c (first_scalar c cs is))
    (shown_scalars cs (other_scalars c cs is))

none_pass : (cs : List ℕ) → NonePass is_hidden (map shown cs)
none_pass [] = tt
none_pass (c ∷ cs) = (shown_is_clear c, none_pass cs)

pub none_is_hidden : NoneIsHidden
none_is_hidden text utf8 =
    subst (NonePass is_hidden) (sym (chars-encodes (map shown (chars text))
    (shown_scalars (chars text) (scalars-chars text utf8)))) (none_pass (chars text))

-- Printing characters of ASCII aren't hidden, checked one by one.
printing : list_all (λ c. not (is_hidden (0x20 + c))) (range_with_len 0 0x5F) ≡ true
printing = refl

pub prints : (c : ℕ) → 0x20 ≤ c → c < 0x7F → is_hidden c ≡ false
prints c low high =
    let below : c - 0x20 < 0x5F = omega arith in
    let at : get_or (range_with_len 0 0x5F) (c - 0x20) 0 ≡ c - 0x20 =
    omega (arith, get_or-range_with_len 0 0x5F (c - 0x20) 0 below) in
    let same : 0x20 + (c - 0x20) ≡ c = omega arith in
    not_true (is_hidden c) (subst (λ n. not (is_hidden n) ≡ true) same
    (subst (λ n. not (is_hidden (0x20 + n)) ≡ true) at
    (AllPass-from_list_all (λ n. not (is_hidden (0x20 + n))) (range_with_len 0 0x5F) printing
    (c - 0x20) 0 (omega (arith, length-range_with_len 0 0x5F)))))

-- A printing character is shown as it is.
pub itself : (c : ℕ) → 0x20 ≤ c → c < 0x7F → shown c ≡ c
itself c low high =
    let other : (c == 0x7F) ≡ false = grind (arith, nat_tests) in
    rw (le-ltb c 0x20 low) (rw other (rw (prints c low high) refl))

pub bounds : (c : ℕ) → is_printable c ≡ true → (0x20 ≤ c) × (c < 0x7F)
bounds c is =
    let parts = and_parts (nat_le 0x20 c) (nat_le c 0x7E) is in
    let high : c ≤ 0x7E = leb-true c 0x7E parts.1 in
    (leb-true 0x20 c parts.0, omega arith)

pub all_ascii : (text : Text) → list_all is_printable text ≡ true → IsAscii text
all_ascii [] are = IsAscii-nil
all_ascii (b ∷ bytes) are =
    let parts = and_parts (is_printable b) (list_all is_printable bytes) are in
    let high = (bounds b parts.0).1 in
    IsAscii-cons b bytes (omega (arith, high)) (all_ascii bytes parts.1)

encoded : (text : Text) → list_all is_printable text ≡ true
    → encode_utf8_all (map shown text) ≡ text
encoded [] are = refl
encoded (b ∷ bytes) are =
    let parts = and_parts (is_printable b) (list_all is_printable bytes) are in
    let ends = bounds b parts.0 in
    let first : encode_utf8 (shown b) ≡ b ∷ [] =
    ap encode_utf8 (itself b ends.0 ends.1) ∙ encode_ascii b (omega (arith, ends.1)) in
    ap (λ t. t ++ encode_utf8_all (map shown bytes)) first ∙
    ap (λ t. b ∷ t) (encoded bytes parts.1)

pub shown_as_it_is : (text : Text) → list_all is_printable text ≡ true → safe text ≡ text
shown_as_it_is text are =
    ap (λ cs. encode_utf8_all (map shown cs)) (chars-IsAscii text (all_ascii text are)) ∙
    encoded text are

-- A short printing text is neither cut nor changed.

uncut : (text : Text) (most : ℕ) → length text ≤ most → list_all is_printable text ≡ true
    → nat_lt most (length (chars text)) ≡ false
uncut text most short are =
    rw (chars-IsAscii text (all_ascii text are)) (le-ltb most (length text) short)

pub plain_start : (text : Text) (most : ℕ) → length text ≤ most → list_all is_printable text ≡ true
    → safe (cut_start most text) ≡ text
plain_start text most short are = rw (uncut text most short are) (shown_as_it_is text are)

pub plain_end : (text : Text) (most : ℕ) → length text ≤ most → list_all is_printable text ≡ true
    → safe (cut_end most text) ≡ text
plain_end text most short are = rw (uncut text most short are) (shown_as_it_is text are)
