-- A path as a URI stands between quotes as it is.
use Rattle.std.proofs.Common.{◌≡◌, ℕ, ◌/◌, ◌%◌, ◌<◌, ◌≤◌, Bool, true, false, ◌&&◌, nat_lt, nat_eq, [], ◌∷◌, ◌++◌, codes, drop, refl, sym, ap, ◌∙◌, inl, inr, arith, IsUtf8, ltb-true}
use Rattle.std.proofs.lemmas.Bool.{true≢false, cases_Bool, cases_lt, lt-ltb}
use Rattle.std.proofs.lemmas.Bool.Decides.{nat_tests}
use Rattle.std.proofs.lemmas.Str.{IsUtf8-append, IsUtf8-nil}
use Rattle.std.specs.Prelude.{if◌then◌else◌}
use Rattle.std.specs.List.{starts_with}
use Rattle.json.proofs.Printed.Utf8.{IsUtf8-are_ascii}
use Rattle.timefd_parse.specs.Tree.{Text}
use Rattle.timefd_lint_drawing.specs.Sarif.{encoded, hex_digit, is_plain, uri, uri_byte}
use Rattle.timefd_web.proofs.JsonLawLemmas.Bytes.{AreBytes, of_text, without_two}
use Rattle.timefd_web.proofs.JsonLawLemmas.Escapes.{Passes, both, itself, none}

pub record Stays (text : Text) : Type 0 where
  pub passes : Passes text text
  pub utf8 : IsUtf8 text

stay_both : (a b : Text) → Stays a → Stays b → Stays (a ++ b)
stay_both a b p q = record { passes = both a b a b p.passes q.passes; utf8 = IsUtf8-append a b p.utf8 q.utf8 }

stay_none : Stays []
stay_none = record { passes = none; utf8 = IsUtf8-nil }

one : (x : ℕ) → (x ≡ 34 → ⊥) → (x ≡ 92 → ⊥) → 32 ≤ x → x < 128 → Stays (x ∷ [])
one x quote back low high = record {
  passes = itself x quote back low;
  utf8 = IsUtf8-are_ascii (x ∷ []) (λ i. lt-ltb x 128 high i && true);
}

low_is_not : (b : ℕ) → b < 32 → is_plain b ≡ false
low_is_not b h = grind (arith, nat_tests)

high_is_not : (b : ℕ) → 128 ≤ b → is_plain b ≡ false
high_is_not b h = grind (arith, nat_tests)

plain_stays : (b : ℕ) → is_plain b ≡ true → Stays (b ∷ [])
plain_stays b is =
    one b (λ e. true≢false (sym is ∙ ap is_plain e)) (λ e. true≢false (sym is ∙ ap is_plain e))
    (elim (cases_lt b 32) [
      | inl low ↦ absurd (true≢false (sym is ∙ low_is_not b low))
      | inr h ↦ h
    ])
    (elim (cases_lt b 128) [
      | inl h ↦ h
      | inr high ↦ absurd (true≢false (sym is ∙ high_is_not b high))
    ])

digit_bounds : (n : ℕ) → n < 16 → (48 ≤ hex_digit n) × (hex_digit n < 71)
digit_bounds n small = elim (cases_Bool (nat_lt n 10)) [
  | inl is ↦ rw is (omega arith, omega (arith, ltb-true n 10 is))
  | inr big ↦ rw big (omega arith, omega arith)
]

digit_stays : (n : ℕ) → n < 16 → Stays (hex_digit n ∷ [])
digit_stays n small =
    let ends = digit_bounds n small in
    one (hex_digit n) (λ e. omega (arith, ends.0)) (λ e. omega (arith, ends.1)) (omega (arith, ends.0)) (omega (arith, ends.1))

number_stays : (b : ℕ) → b < 256 → Stays (37 ∷ hex_digit (b / 16) ∷ hex_digit (b % 16) ∷ [])
number_stays b small =
    stay_both (37 ∷ []) _ (one 37 (λ e. omega arith) (λ e. omega arith) (omega arith) (omega arith))
    (stay_both (hex_digit (b / 16) ∷ []) _ (digit_stays (b / 16) (omega arith)) (digit_stays (b % 16) (omega arith)))

byte_stays : (b : ℕ) → b < 256 → Stays (uri_byte b)
byte_stays b small = elim (cases_Bool (is_plain b)) [
  | inl is ↦ rw is (plain_stays b is)
  | inr isnt ↦ rw isnt (number_stays b small)
]

encoded_stays : (path : Text) → AreBytes path → Stays (encoded path)
encoded_stays [] are = stay_none
encoded_stays (b ∷ path) are = stay_both (uri_byte b) (encoded path) (byte_stays b are.0) (encoded_stays path are.1)

scheme_stays : Stays (codes "file://")
scheme_stays =
    stay_both (102 ∷ []) _ (plain_stays 102 refl) (stay_both (105 ∷ []) _ (plain_stays 105 refl)
    (stay_both (108 ∷ []) _ (plain_stays 108 refl) (stay_both (101 ∷ []) _ (plain_stays 101 refl)
    (stay_both (58 ∷ []) _ (one 58 (λ e. omega arith) (λ e. omega arith) (omega arith) (omega arith))
    (stay_both (47 ∷ []) _ (plain_stays 47 refl) (plain_stays 47 refl))))))

by_front : (absolute here : Bool) (path : Text) → AreBytes path
    → Stays (if absolute then codes "file://" ++ encoded path else if here then encoded (drop 2 path) else encoded path)
by_front true here path are = stay_both (codes "file://") (encoded path) scheme_stays (encoded_stays path are)
by_front false true path are = encoded_stays (drop 2 path) (without_two path are)
by_front false false path are = encoded_stays path are

pub uri_stays : (path : Text) → IsUtf8 path → Stays (uri path)
uri_stays path utf8 =
    by_front (starts_with nat_eq path (codes "/")) (starts_with nat_eq path (codes "./")) path (of_text path utf8)
