-- The bytes of a UTF-8 text are bytes.
use Rattle.std.proofs.Common.{◌≡◌, ℕ, ◌+◌, ◌/◌, ◌%◌, ◌<◌, Bool, true, false, cond, nat_lt, List, [], ◌∷◌, ◌++◌, drop, refl, subst, inl, inr, arith, IsUtf8, ltb-true}
use Rattle.std.proofs.lemmas.Bool.{and_parts}
use Rattle.std.specs.Prelude.{⊤}
use Rattle.std.specs.Char.{encode_utf8}
use Rattle.std.specs.Str.{all_scalars, encode_utf8_all}
use Rattle.timefd_parse.specs.Tree.{Text}
use lib.Utf8.{scalar, scalar_cases}

abbrev pub AreBytes : Text → Type 0
AreBytes [] = ⊤
AreBytes (b ∷ bytes) = (b < 256) × AreBytes bytes

joined : (xs ys : Text) → AreBytes xs → AreBytes ys → AreBytes (xs ++ ys)
joined [] ys p q = q
joined (x ∷ xs) ys p q = (p.0, joined xs ys p.1 q)

by_tests : (c : ℕ) (one two three : Bool) → (one ≡ true → c < 128) → (two ≡ true → c < 2048) → (three ≡ true → c < 65536)
    → c < 1114112
    → AreBytes (cond one (c ∷ []) (cond two ((192 + c / 64) ∷ (128 + c % 64) ∷ [])
    (cond three ((224 + c / 4096) ∷ (128 + c / 64 % 64) ∷ (128 + c % 64) ∷ [])
    ((240 + c / 262144) ∷ (128 + c / 4096 % 64) ∷ (128 + c / 64 % 64) ∷ (128 + c % 64) ∷ []))))
by_tests c true two three a b d h = (omega (arith, a refl), tt)
by_tests c false true three a b d h = (omega (arith, b refl), (omega arith, tt))
by_tests c false false true a b d h = (omega (arith, d refl), (omega arith, (omega arith, tt)))
by_tests c false false false a b d h = (omega arith, (omega arith, (omega arith, (omega arith, tt))))

within : (c : ℕ) → scalar c ≡ true → c < 1114112
within c is = elim (scalar_cases c is) [
  | inl low ↦ omega arith
  | inr ends ↦ ends.1
]

of_char : (c : ℕ) → scalar c ≡ true → AreBytes (encode_utf8 c)
unfolding encode_utf8
of_char c is =
    by_tests c (nat_lt c 128) (nat_lt c 2048) (nat_lt c 65536) (ltb-true c 128) (ltb-true c 2048) (ltb-true c 65536) (within c is)

of_chars : (cs : List ℕ) → all_scalars cs ≡ true → AreBytes (encode_utf8_all cs)
of_chars [] are = tt
of_chars (c ∷ cs) are =
    joined (encode_utf8 c) (encode_utf8_all cs) (of_char c (and_parts (scalar c) (all_scalars cs) are).0)
    (of_chars cs (and_parts (scalar c) (all_scalars cs) are).1)

pub of_text : (text : Text) → IsUtf8 text → AreBytes text
of_text text utf8 = subst AreBytes utf8.1.1 (of_chars utf8.0 utf8.1.0)

pub without_two : (text : Text) → AreBytes text → AreBytes (drop 2 text)
without_two [] are = tt
without_two (a ∷ []) are = tt
without_two (a ∷ b ∷ text) are = are.1.1
