-- Characters of a literal.
use Rattle.std.proofs.Common.{ℕ, suc, ◌≡◌, ◌+◌, ◌<◌, ◌≤◌, ◌==◌, cond, Bool, true, false, [], ◌∷◌, ◌++◌, append_assoc, take-append-drop, length, take, drop, length-drop, refl, sym, ap, ◌∙◌, arith, Option, Some, None, subst, IsUtf8}
use Rattle.std.proofs.lemmas.Bool.{and_parts}
use Rattle.std.proofs.lemmas.Bool.Decides.{nat_tests}
use Rattle.std.proofs.lemmas.List.Sums.{prefix_len-le-length, prefix_len_stops}
use Rattle.std.proofs.lemmas.Str.{IsUtf8-drop}
use Rattle.std.specs.List.{prefix_len, slice_index}
use Rattle.std.specs.Str.{IsCharBoundary}
use Rattle.timefd_lang_component.specs.Tree.{Text}
use Rattle.timefd_language.specs.Bytes.{backslash, is_special, ZeroOrMore}
use Rattle.timefd_language.proofs.CutLemmas.{cut_at_prefix}
use Rattle.timefd_lang_dialect.specs.Quotes.{escaped, continues, char_len, IsCharacter, apostrophe, quotation, with_byte}
use Rattle.timefd_lang_dialect.specs.QuoteSteps.{with_front, IsFirst}

-- Escapes.

pub escaped_append : (a b : Text) → escaped (a ++ b) ≡ escaped a ++ escaped b
escaped_append [] b = refl
escaped_append (x ∷ a) b = by (is_special x) (escaped_append a b)
  where
    by : (t : Bool) → escaped (a ++ b) ≡ escaped a ++ escaped b → cond t (backslash ∷ x ∷ escaped (a ++ b)) (x ∷ escaped (a ++ b))
        ≡ cond t (backslash ∷ x ∷ escaped a) (x ∷ escaped a) ++ escaped b
    by true more = ap (λ y. backslash ∷ x ∷ y) more
    by false more = ap (λ y. x ∷ y) more

plain_byte : (b : ℕ) → continues b ≡ true → is_special b ≡ false
plain_byte b e = grind (arith, nat_tests)

pub escaped_continued : (bytes : Text) → ZeroOrMore continues bytes → escaped bytes ≡ bytes
escaped_continued [] all = refl
escaped_continued (b ∷ bytes) all =
    let p = and_parts (continues b) _ all in
    rw (plain_byte b p.0) (ap (λ y. b ∷ y) (escaped_continued bytes p.1))

pub escaped_special : (b : ℕ) (bytes : Text) → is_special b ≡ true → ZeroOrMore continues bytes
    → escaped (b ∷ bytes) ≡ backslash ∷ b ∷ bytes
escaped_special b bytes e all = rw e (ap (λ y. backslash ∷ b ∷ y) (escaped_continued bytes all))

pub escaped_plain : (b : ℕ) (bytes : Text) → is_special b ≡ false → ZeroOrMore continues bytes
    → escaped (b ∷ bytes) ≡ b ∷ bytes
escaped_plain b bytes e all = rw e (ap (λ y. b ∷ y) (escaped_continued bytes all))

-- Where the first character ends.

not_continuing : (b : ℕ) → continues b ≡ false → 128 ≤ b → 192 ≤ b
not_continuing b e high = grind (arith, nat_tests)

pub char_boundary : (b : ℕ) (rest : Text)
    → IsCharBoundary (b ∷ rest) (1 + prefix_len continues rest)
char_boundary b rest =
    let more : 1 + prefix_len continues rest ≡ suc (prefix_len continues rest) = omega arith in
    rw more (
      omega (arith, prefix_len-le-length continues rest),
      λ below high. not_continuing _ (prefix_len_stops continues rest 0 (omega (arith, below))) high,
    )

-- the first character is a character
pub first_is : (b : ℕ) (rest : Text) → IsCharacter (take (char_len (b ∷ rest)) (b ∷ rest))
first_is b rest =
    let more : 1 + prefix_len continues rest ≡ suc (prefix_len continues rest) = omega arith in
    rw more (cut_at_prefix continues rest _ _ (prefix_len continues rest) refl refl refl).passes

pub first_boundary : (text : Text) (n : ℕ) → 0 < length text → n ≡ char_len text
    → IsCharBoundary text n
first_boundary [] n some is = absurd (omega (arith, some))
first_boundary (b ∷ rest) n some is =
    subst (IsCharBoundary (b ∷ rest)) (sym is) (char_boundary b rest)

first_parts : (b : ℕ) (rest : Text) → IsUtf8 (b ∷ rest)
    → IsFirst (b ∷ rest) (take (char_len (b ∷ rest)) (b ∷ rest))
    (drop (char_len (b ∷ rest)) (b ∷ rest))
first_parts b rest utf8 = record {
  front_is = refl;
  rest_is = refl;
  character = first_is b rest;
  left = record {
    shorter = omega (arith, length-drop (1 + prefix_len continues rest) (b ∷ rest));
    utf8 = IsUtf8-drop (b ∷ rest) (1 + prefix_len continues rest) utf8 (char_boundary b rest);
  };
}

pub first_of : (text front rest : Text) (n : ℕ) → IsUtf8 text → 0 < length text
    → n ≡ char_len text → front ≡ take n text → rest ≡ drop n text → IsFirst text front rest
first_of [] front rest n utf8 some is front_is rest_is = absurd (omega (arith, some))
first_of (b ∷ bytes) front rest n utf8 some is front_is rest_is =
    rw (front_is, rest_is, is) (first_parts b bytes utf8)

-- A character between apostrophes.

quoted_bytes : (bytes rest : Text) → ZeroOrMore continues bytes
    → quotation (bytes ++ rest) ≡ with_front bytes (quotation rest)
quoted_bytes [] rest all = refl
quoted_bytes (b ∷ bytes) rest all =
    let p = and_parts (continues b) _ all in
    rw (no_apostrophe b p.0) (ap (with_byte b) (quoted_bytes bytes rest p.1))
  where
    no_apostrophe : (b : ℕ) → continues b ≡ true → (b == apostrophe) ≡ false
    no_apostrophe b e = grind (arith, nat_tests)

pub quoted_char : (b : ℕ) (bytes rest : Text) → (b == apostrophe) ≡ false
    → ZeroOrMore continues bytes
    → quotation (b ∷ bytes ++ rest) ≡ with_front (b ∷ bytes) (quotation rest)
quoted_char b bytes rest e all = rw e (ap (with_byte b) (quoted_bytes bytes rest all))

quoted_first : (b : ℕ) (rest : Text) → (b == apostrophe) ≡ false
    → quotation (b ∷ rest)
    ≡ with_front (take (char_len (b ∷ rest)) (b ∷ rest))
    (quotation (drop (char_len (b ∷ rest)) (b ∷ rest)))
quoted_first b rest e =
    let more : 1 + prefix_len continues rest ≡ suc (prefix_len continues rest) = omega arith in
    let cut = cut_at_prefix continues rest _ _ (prefix_len continues rest) refl refl refl in
    rw more (ap (λ x. quotation (b ∷ x)) cut.whole ∙ quoted_char b (take (prefix_len continues rest) rest)
    (drop (prefix_len continues rest) rest) e cut.passes)

pub quoted_step : (text front rest : Text) → IsFirst text front rest → 0 < length text
    → (slice_index text 0 == apostrophe) ≡ false
    → quotation text ≡ with_front front (quotation rest)
quoted_step [] front rest f some e = absurd (omega (arith, some))
quoted_step (b ∷ bytes) front rest f some e =
    rw (f.front_is, f.rest_is) (quoted_first b bytes e)

-- What was quoted so far, and what is quoted in the rest.

pub with_front-append : (a b : Text) (found : Option (Text × Text))
    → with_front (a ++ b) found ≡ with_front a (with_front b found)
with_front-append [] b found = refl
with_front-append (x ∷ a) b found = ap (with_byte x) (with_front-append a b found)

pub with_front-none : (a : Text) → with_front a None ≡ None
with_front-none [] = refl
with_front-none (x ∷ a) = ap (with_byte x) (with_front-none a)

pub with_front-some : (a rest : Text) → with_front a (Some ([], rest)) ≡ Some (a, rest)
with_front-some [] rest = refl
with_front-some (x ∷ a) rest = ap (with_byte x) (with_front-some a rest)

-- One more character is written.

pub literal_more : (now next text rest front whole : Text) → IsFirst text front rest
    → now ++ escaped text ≡ whole → next ≡ now ++ escaped front
    → next ++ escaped rest ≡ whole
literal_more now next text rest front whole f so_far one =
    ap (λ x. x ++ escaped rest) one ∙ append_assoc now (escaped front) (escaped rest)
    ∙ ap (λ x. now ++ x) (sym (escaped_append front rest)
    ∙ ap escaped (ap (λ x. x ++ rest) f.front_is
    ∙ ap (λ x. take (char_len text) text ++ x) f.rest_is
    ∙ take-append-drop (char_len text) text))
    ∙ so_far
