-- What people see holds nothing that a terminal would obey, except for newlines and colours.
use Rattle.std.proofs.Common.{true≢false, ℕ, suc, ◌≡◌, ◌<◌, Bool, true, false, nat_le, not, ◌&&◌, ◌||◌, ◌==◌, List, [], ◌∷◌, ◌++◌, chars, length, refl, sym, ap, subst, ◌∙◌, inl, inr, arith, eqb-true, IsUtf8}
use Rattle.std.specs.Prelude.{String, string_bytes}
use Rattle.std.proofs.lemmas.Bool.{and_parts, cases_Bool}
use Rattle.std.proofs.lemmas.List.{append-nil, append_assoc}
use Rattle.std.proofs.lemmas.Str.{IsUtf8-from_ascii, IsUtf8-string_bytes, chars-IsAscii, chars-encodes, encode_ascii, scalars-chars, utf8_lossy-IsUtf8}
use Rattle.std.proofs.lemmas.Str.Ascii.{IsAscii-cons, IsAscii-nil}
use Rattle.std.specs.Char.{encode_utf8}
use Rattle.std.specs.List.{list_all}
use Rattle.std.specs.Str.{IsAscii, all_scalars, encode_utf8_all}
use Rattle.std.specs.Str.Lossy.{utf8_lossy}
use Rattle.timefd_lang_component.specs.Tree.{Text}
use Rattle.timefd_lint_drawing.specs.People.{AllSeen, all_seen_of, begins_bold, begins_color, begins_plain, for_people, is_color, is_paint, is_plain, seen_of}
use Rattle.timefd_lint_drawing.specs.Shown.{is_hidden, is_printable}
use Rattle.timefd_lint_drawing.proofs.ShownLemmas.{bounds, first_scalar, itself, joined, other_scalars, shown_is_clear, shown_scalar}

first_false : (a b : Bool) → (a || b) ≡ false → a ≡ false
first_false true b none = none
first_false false b none = refl

other_true : (a b : Bool) → a ≡ false → (a || b) ≡ true → b ≡ true
other_true true b none one = absurd (true≢false none)
other_true false b none one = one

both_true : {a b : Bool} → a ≡ true → b ≡ true → (a && b) ≡ true
both_true {a} {b} p q = rw p q

or_first : {a : Bool} (b : Bool) → a ≡ true → (a || b) ≡ true
or_first {a} b p = rw p refl

or_other : (a : Bool) {b : Bool} → b ≡ true → (a || b) ≡ true
or_other true p = refl
or_other false p = p

color_plain : (c : ℕ) → is_color c ≡ true → is_plain c ≡ true
color_plain c is = elim (cases_Bool (c == 49)) [
  | inl one ↦ subst (λ x. is_plain x ≡ true) (sym (eqb-true c 49 one)) refl
  | inr not_one ↦ elim (cases_Bool (c == 51)) [
    | inl three ↦ subst (λ x. is_plain x ≡ true) (sym (eqb-true c 51 three)) refl
    | inr not_three ↦ subst (λ x. is_plain x ≡ true) (sym (eqb-true c 54
        (other_true (c == 51) (c == 54) not_three
        (other_true (c == 49) ((c == 51) || (c == 54)) not_one is)))) refl
  ]
]

-- What people see as it is stays as it is.
seen_itself : (colored : Bool) (c : ℕ) (after_span : List ℕ) → is_plain c ≡ true
    → seen_of colored c after_span ≡ c
seen_itself colored c after_span is = elim (cases_Bool ((c == 10) || is_paint colored c after_span)) [
  | inl kept ↦ rw kept refl
  | inr other ↦
      let ends = bounds c (other_true (c == 10) (is_printable c)
      (first_false (c == 10) (is_paint colored c after_span) other) is) in
      rw other (itself c ends.0 ends.1)
]

plain_bound : (b : ℕ) → is_plain b ≡ true → b < 0x80
plain_bound b is = elim (cases_Bool (b == 10)) [
  | inl newline ↦ omega (arith, eqb-true b 10 newline)
  | inr other ↦ omega (arith, (bounds b (other_true (b == 10) (is_printable b) other is)).1)
]

all_ascii : (text : Text) → list_all is_plain text ≡ true → IsAscii text
all_ascii [] are = IsAscii-nil
all_ascii (b ∷ bytes) are =
    let parts = and_parts (is_plain b) (list_all is_plain bytes) are in
    IsAscii-cons b bytes (plain_bound b parts.0) (all_ascii bytes parts.1)

encoded : (colored : Bool) (text : Text) → list_all is_plain text ≡ true
    → encode_utf8_all (all_seen_of colored text) ≡ text
encoded colored [] are = refl
encoded colored (b ∷ bytes) are =
    let parts = and_parts (is_plain b) (list_all is_plain bytes) are in
    let first : encode_utf8 (seen_of colored b bytes) ≡ b ∷ [] =
    ap encode_utf8 (seen_itself colored b bytes parts.0) ∙ encode_ascii b (plain_bound b parts.0) in
    ap (λ t. t ++ encode_utf8_all (all_seen_of colored bytes)) first ∙
    ap (λ t. b ∷ t) (encoded colored bytes parts.1)

pub shown_as_it_is : (colored : Bool) (text : Text) → list_all is_plain text ≡ true
    → for_people colored text ≡ text
shown_as_it_is colored text are =
    let ascii : IsAscii text = all_ascii text are in
    ap (λ t. encode_utf8_all (all_seen_of colored (chars t)))
    (utf8_lossy-IsUtf8 text (IsUtf8-from_ascii text ascii)) ∙
    (ap (λ cs. encode_utf8_all (all_seen_of colored cs)) (chars-IsAscii text ascii) ∙
    encoded colored text are)

seen_scalar : (colored : Bool) (c : ℕ) (after_span : List ℕ) → all_scalars (c ∷ []) ≡ true
    → all_scalars (seen_of colored c after_span ∷ []) ≡ true
seen_scalar colored c after_span is = elim (cases_Bool ((c == 10) || is_paint colored c after_span)) [
  | inl kept ↦ rw kept is
  | inr other ↦ rw other (shown_scalar c is)
]

seen_scalars : (colored : Bool) (cs : List ℕ) → all_scalars cs ≡ true
    → all_scalars (all_seen_of colored cs) ≡ true
seen_scalars colored [] is = refl
seen_scalars colored (c ∷ cs) is =
    joined (seen_of colored c cs) (all_seen_of colored cs)
    (seen_scalar colored c cs (first_scalar c cs is))
    (seen_scalars colored cs (other_scalars c cs is))

same_length : (colored : Bool) (cs : List ℕ) → length (all_seen_of colored cs) ≡ length cs
same_length colored [] = refl
same_length colored (c ∷ cs) = ap (λ n. suc n) (same_length colored cs)

-- A character that is a part of a colour is seen as it is.
stays : (colored : Bool) (n c : ℕ) (after_span : List ℕ) → is_plain n ≡ true → (c == n) ≡ true
    → (seen_of colored c after_span == n) ≡ true
stays colored n c after_span plain is =
    let same : c ≡ n = eqb-true c n is in
    subst (λ x. (x == n) ≡ true)
    (sym (seen_itself colored c after_span (subst (λ x. is_plain x ≡ true) (sym same) plain))) is

color_stays : (colored : Bool) (c : ℕ) (after_span : List ℕ) → is_color c ≡ true
    → is_color (seen_of colored c after_span) ≡ true
color_stays colored c after_span is =
    subst (λ x. is_color x ≡ true) (sym (seen_itself colored c after_span (color_plain c is))) is

plain_stays : (colored : Bool) (after_span : List ℕ) → begins_plain after_span ≡ true
    → begins_plain (all_seen_of colored after_span) ≡ true
plain_stays colored [] is = is
plain_stays colored (a ∷ []) is = is
plain_stays colored (a ∷ b ∷ []) is = is
plain_stays colored (a ∷ b ∷ c ∷ cs) is =
    let text : List ℕ = a ∷ b ∷ c ∷ cs in
    let long = and_parts (nat_le 3 (length text)) ((a == 91) && ((b == 48) && (c == 109))) is in
    let one = and_parts (a == 91) ((b == 48) && (c == 109)) long.1 in
    let two = and_parts (b == 48) (c == 109) one.1 in
    both_true (subst (λ n. nat_le 3 n ≡ true) (sym (same_length colored text)) long.0)
    (both_true (stays colored 91 a (b ∷ c ∷ cs) refl one.0)
    (both_true (stays colored 48 b (c ∷ cs) refl two.0) (stays colored 109 c cs refl two.1)))

bold_stays : (colored : Bool) (after_span : List ℕ) → begins_bold after_span ≡ true
    → begins_bold (all_seen_of colored after_span) ≡ true
bold_stays colored [] is = is
bold_stays colored (a ∷ []) is = is
bold_stays colored (a ∷ b ∷ []) is = is
bold_stays colored (a ∷ b ∷ c ∷ []) is = is
bold_stays colored (a ∷ b ∷ c ∷ d ∷ []) is = is
bold_stays colored (a ∷ b ∷ c ∷ d ∷ e ∷ []) is = is
bold_stays colored (a ∷ b ∷ c ∷ d ∷ e ∷ f ∷ cs) is =
    let text : List ℕ = a ∷ b ∷ c ∷ d ∷ e ∷ f ∷ cs in
    let long = and_parts (nat_le 6 (length text)) ((a == 91) && ((b == 49) && ((c == 59)
    && ((d == 51) && (is_color e && (f == 109)))))) is in
    let one = and_parts (a == 91) ((b == 49) && ((c == 59) && ((d == 51) && (is_color e && (f == 109))))) long.1 in
    let two = and_parts (b == 49) ((c == 59) && ((d == 51) && (is_color e && (f == 109)))) one.1 in
    let three = and_parts (c == 59) ((d == 51) && (is_color e && (f == 109))) two.1 in
    let four = and_parts (d == 51) (is_color e && (f == 109)) three.1 in
    let five = and_parts (is_color e) (f == 109) four.1 in
    both_true (subst (λ n. nat_le 6 n ≡ true) (sym (same_length colored text)) long.0)
    (both_true (stays colored 91 a (b ∷ c ∷ d ∷ e ∷ f ∷ cs) refl one.0)
    (both_true (stays colored 49 b (c ∷ d ∷ e ∷ f ∷ cs) refl two.0)
    (both_true (stays colored 59 c (d ∷ e ∷ f ∷ cs) refl three.0)
    (both_true (stays colored 51 d (e ∷ f ∷ cs) refl four.0)
    (both_true (color_stays colored e (f ∷ cs) five.0) (stays colored 109 f cs refl five.1))))))

paint_stays : (colored : Bool) (c : ℕ) (after_span : List ℕ) → is_paint colored c after_span ≡ true
    → is_paint colored c (all_seen_of colored after_span) ≡ true
paint_stays colored c after_span is =
    let some = and_parts colored ((c == 27) && begins_color after_span) is in
    let escape = and_parts (c == 27) (begins_color after_span) some.1 in
    both_true some.0 (both_true escape.0 (elim (cases_Bool (begins_plain after_span)) [
      | inl plain ↦ or_first (begins_bold (all_seen_of colored after_span)) (plain_stays colored after_span plain)
      | inr other ↦ or_other (begins_plain (all_seen_of colored after_span)) (bold_stays colored after_span
          (other_true (begins_plain after_span) (begins_bold after_span) other escape.1))
    ]))

one_seen : (colored : Bool) (c : ℕ) (after_span : List ℕ)
    → (not (is_hidden (seen_of colored c after_span)) || ((seen_of colored c after_span == 10)
    || is_paint colored (seen_of colored c after_span) (all_seen_of colored after_span))) ≡ true
one_seen colored c after_span = elim (cases_Bool ((c == 10) || is_paint colored c after_span)) [
  | inl kept ↦ rw kept (or_other (not (is_hidden c)) (elim (cases_Bool (c == 10)) [
    | inl newline ↦ or_first (is_paint colored c (all_seen_of colored after_span)) newline
    | inr other ↦ or_other (c == 10) (paint_stays colored c after_span
        (other_true (c == 10) (is_paint colored c after_span) other kept))
  ]))
  | inr other ↦ rw other (or_first _ (ap not (shown_is_clear c)))
]

all_are_seen : (colored : Bool) (cs : List ℕ) → AllSeen colored (all_seen_of colored cs)
all_are_seen colored [] = tt
all_are_seen colored (c ∷ cs) = (one_seen colored c cs, all_are_seen colored cs)

-- If a text is UTF-8, all of it is seen.
pub all_seen : (colored : Bool) (text : Text) → IsUtf8 text
    → AllSeen colored (chars (encode_utf8_all (all_seen_of colored (chars text))))
all_seen colored text utf8 =
    subst (AllSeen colored) (sym (chars-encodes (all_seen_of colored (chars text))
    (seen_scalars colored (chars text) (scalars-chars text utf8)))) (all_are_seen colored (chars text))

-- All is seen of bytes that are shown as they are, and of any other bytes.
pub plain_seen : (colored : Bool) (text : Text) → list_all is_plain text ≡ true
    → AllSeen colored (chars (for_people colored text))
plain_seen colored text are =
    let utf8 : IsUtf8 text = IsUtf8-from_ascii text (all_ascii text are) in
    subst (λ t. AllSeen colored (chars (encode_utf8_all (all_seen_of colored (chars t)))))
    (sym (utf8_lossy-IsUtf8 text utf8)) (all_seen colored text utf8)

pub lossy_seen : {Z : Type 0} (colored : Bool) (bytes : Text) (s : String Z)
    → string_bytes s ≡ utf8_lossy bytes → AllSeen colored (chars (for_people colored bytes))
lossy_seen colored bytes s is =
    all_seen colored (utf8_lossy bytes) (subst IsUtf8 is (IsUtf8-string_bytes s))

-- One character more, and the last one.
pub one_more : (colored : Bool) (c : ℕ) (after_span rest : List ℕ) (old new all : Text)
    → rest ≡ c ∷ after_span → new ≡ old ++ encode_utf8 (seen_of colored c after_span)
    → old ++ encode_utf8_all (all_seen_of colored rest) ≡ all
    → new ++ encode_utf8_all (all_seen_of colored after_span) ≡ all
one_more colored c after_span rest old new all split pushed so_far =
    ap (λ t. t ++ encode_utf8_all (all_seen_of colored after_span)) pushed ∙
    (append_assoc old (encode_utf8 (seen_of colored c after_span)) (encode_utf8_all (all_seen_of colored after_span)) ∙
    (ap (λ cs. old ++ encode_utf8_all (all_seen_of colored cs)) (sym split) ∙ so_far))

pub at_last : (colored : Bool) (rest : List ℕ) (old all : Text) → rest ≡ []
    → old ++ encode_utf8_all (all_seen_of colored rest) ≡ all → old ≡ all
at_last colored rest old all none so_far =
    sym (append-nil old) ∙ (ap (λ cs. old ++ encode_utf8_all (all_seen_of colored cs)) (sym none) ∙ so_far)
