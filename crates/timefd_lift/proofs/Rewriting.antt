-- What is written byte by byte for a text that version 1 spells is the text rewritten.
use Rattle.std.proofs.Common.{ℕ, ◌≡◌, ◌==◌, inl, inr, not, Bool, true, false, List, [], ◌∷◌, ◌++◌, refl, ◌∙◌, ap, eqb-true, arith}
use Rattle.std.specs.List.{list_all}
use Rattle.std.proofs.lemmas.Bool.{and_parts, and_from, cases_Bool}
use Rattle.std.proofs.lemmas.Bool.Decides.{nat_tests}
use Rattle.timefd_language.specs.declared.description_version.DescriptionVersion.TheVariants.{One}
use Rattle.timefd_lang_component.specs.Tree.{Text}
use Rattle.timefd_language.specs.Bytes.{left, right, backslash, colon, is_special, is_run_byte, is_white, is_word_byte, is_key_byte, ZeroOrMore, OneOrMore}
use Rattle.timefd_language.specs.Head.{Head, IsHead, Modifier, AreModifiers, IsModifier, modifier_text, modifiers_text}
use Rattle.timefd_language.specs.Grammar.{Pieces, no_pieces, run, escape, closing, bracket, no_nested, nested, spelling, ArePieces}
use Rattle.timefd_language.specs.Rewritten.{doubled, rewritten}
use Rattle.timefd_lift.specs.Bytewise.{outside, inside}
use Rattle.timefd_language.proofs.Spans.{all-append, all-implied, zero_from_one}
use Rattle.timefd_language.proofs.Lift.{bracket_refuses}

-- Runs.

-- a run byte of version 1 that isn't a backslash
is_plain : (b : ℕ) → is_run_byte One b ≡ true → (b == backslash) ≡ false → ((b == left) ≡ false)
    × ((b == right) ≡ false)
is_plain b r e = grind (arith, nat_tests)

outside_run : (bytes rest : Text) → ZeroOrMore (is_run_byte One) bytes
    → outside (bytes ++ rest) ≡ doubled bytes ++ outside rest
outside_run [] rest h = refl
outside_run (b ∷ bytes) rest h =
    let p = and_parts (is_run_byte One b) (list_all (is_run_byte One) bytes) h in
    let more = outside_run bytes rest p.1 in
    elim (cases_Bool (b == backslash)) [
      | inl same ↦ rw (eqb-true b backslash same) (ap (λ x. backslash ∷ backslash ∷ x) more)
      | inr other ↦ let plain = is_plain b p.0 other in
          rw (plain.0, plain.1, other) (ap (λ x. b ∷ x) more)
    ]

-- Components.

abbrev is_inner : ℕ → Bool
is_inner b = not (is_special b)

not_left : (b : ℕ) → not (is_special b) ≡ true → (b == left) ≡ false
not_left b e = grind (arith, nat_tests)

not_right : (b : ℕ) → not (is_special b) ≡ true → (b == right) ≡ false
not_right b e = grind (arith, nat_tests)

white_inner : (b : ℕ) → is_white b ≡ true → not (is_special b) ≡ true
white_inner b e = grind (arith, nat_tests)

word_inner : (b : ℕ) → is_word_byte b ≡ true → not (is_special b) ≡ true
word_inner b e = (and_parts (not (is_special b)) (not (is_white b)) e).0

key_inner : (b : ℕ) → is_key_byte b ≡ true → not (is_special b) ≡ true
key_inner b e = word_inner b (and_parts (not (b == colon)) (is_word_byte b) e).1

some_of : (p q : ℕ → Bool) → ((b : ℕ) → p b ≡ true → q b ≡ true) → (bytes : Text)
    → OneOrMore p bytes → ZeroOrMore q bytes
some_of p q h bytes some = all-implied p q h bytes (zero_from_one p bytes some)

modifier_inner : (m : Modifier) → IsModifier m → ZeroOrMore is_inner (modifier_text m)
modifier_inner m is =
    all-append is_inner (m.white ++ m.key) (colon ∷ m.value)
    (all-append is_inner m.white m.key (some_of is_white is_inner white_inner m.white is.white)
    (some_of is_key_byte is_inner key_inner m.key is.key))
    (and_from (is_inner colon) (list_all is_inner m.value) refl
    (some_of is_word_byte is_inner word_inner m.value is.value))

modifiers_inner : (ms : List Modifier) → AreModifiers ms → ZeroOrMore is_inner (modifiers_text ms)
modifiers_inner [] are = refl
modifiers_inner (m ∷ ms) are = all-append is_inner (modifier_text m) (modifiers_text ms)
    (modifier_inner m are.0) (modifiers_inner ms are.1)

-- what is between the brackets of a component
abbrev between : Head → Text → Text
between h white = h.white ++ h.name ++ modifiers_text h.modifiers ++ [] ++ white

between_inner : (h : Head) (white : Text) → IsHead h → ZeroOrMore is_white white
    → ZeroOrMore is_inner (between h white)
between_inner h white is blank =
    all-append is_inner (h.white ++ h.name ++ modifiers_text h.modifiers ++ []) white
    (all-append is_inner (h.white ++ h.name ++ modifiers_text h.modifiers) []
    (all-append is_inner (h.white ++ h.name) (modifiers_text h.modifiers)
    (all-append is_inner h.white h.name (all-implied is_white is_inner white_inner h.white is.white)
    (some_of is_word_byte is_inner word_inner h.name is.name))
    (modifiers_inner h.modifiers is.modifiers))
    refl)
    (all-implied is_white is_inner white_inner white blank)

inside_whole : (bytes rest : Text) → ZeroOrMore is_inner bytes
    → inside (bytes ++ right ∷ rest) ≡ bytes ++ right ∷ outside rest
inside_whole [] rest h = refl
inside_whole (b ∷ bytes) rest h =
    let p = and_parts (is_inner b) (list_all is_inner bytes) h in
    rw (not_right b p.0) (ap (λ x. b ∷ x) (inside_whole bytes rest p.1))

outside_component : (bytes rest : Text) → ZeroOrMore is_inner bytes
    → outside (left ∷ bytes ++ right ∷ rest) ≡ left ∷ bytes ++ right ∷ outside rest
outside_component [] rest h = refl
outside_component (b ∷ bytes) rest h =
    let p = and_parts (is_inner b) (list_all is_inner bytes) h in
    rw (not_left b p.0, not_right b p.0) (ap (λ x. left ∷ b ∷ x) (inside_whole bytes rest p.1))

-- All pieces.

pub outside-spelling : (limit n : ℕ) (ps : Pieces) → ArePieces One limit n ps
    → outside (spelling ps) ≡ rewritten ps
outside-spelling limit n no_pieces are = refl
outside-spelling limit n (run bytes rest) are =
    outside_run bytes (spelling rest) (zero_from_one (is_run_byte One) bytes are.0) ∙
    ap (λ x. doubled bytes ++ x) (outside-spelling limit n rest are.2)
outside-spelling limit n (escape a b rest) are =
    rw (are.0.0, are.0.1) (ap (λ x. backslash ∷ left ∷ x) (outside-spelling limit n rest are.1))
outside-spelling limit n (closing rest) are =
    ap (λ x. backslash ∷ right ∷ x) (outside-spelling limit n rest are.2)
outside-spelling limit n (bracket h no_nested white tree rest) are =
    outside_component (between h white) (spelling rest) (between_inner h white are.0 are.2)
    ∙ ap (λ x. left ∷ between h white ++ right ∷ x) (outside-spelling limit n rest are.4)
outside-spelling limit n (bracket h (nested w ps ns) white tree rest) are =
    absurd (bracket_refuses h w ps ns white tree are.3)
