-- The text really consists of what reading finds.
use Rattle.std.proofs.Common.{ℕ, zero, suc, ◌≡◌, ◌<◌, ◌==◌, ◌⊎◌, inl, inr, not, Bool, true, false, [], ◌∷◌, ◌++◌, length, length-append, refl, sym, ◌∙◌, ap, subst, arith, append_assoc, append-nil, eqb-true}
use Rattle.std.specs.List.{list_all}
use Rattle.std.proofs.lemmas.Bool.{and_parts, and_cases, both_ways, not-false, and_from}
use Rattle.timefd_lang_component.specs.Tree.{Text}
use Rattle.timefd_language.specs.Bytes.{colon, is_white, is_word_byte, is_key_byte, ZeroOrMore, OneOrMore, StopsBefore}
use Rattle.timefd_language.specs.Head.{Modifier, IsModifier, AreModifiers}
use Rattle.timefd_language.specs.Broken.{misfit_text, IsMisfit}
use Rattle.timefd_language.proofs.Reader.{cut, span, WordRead, fits, misfits, valued, keyed, word_of, ModifiersRead, all_fit, one_misfits, modifier, with_modifier, word_continued, modifiers_continued, read_modifiers}
use Rattle.timefd_language.proofs.Spans.{IsSpan, span-is_span, zero_from_one}
use Rattle.timefd_language.proofs.Before.{modifiers_before, misfit_before, misfit_before-is}

all_split : (test : ℕ → Bool) (a b : Text) → ZeroOrMore test (a ++ b)
    → ZeroOrMore test a × ZeroOrMore test b
all_split test [] b h = (refl, h)
all_split test (x ∷ a) b h =
    let p = and_parts (test x) (list_all test (a ++ b)) h in
    let q = all_split test a b p.1 in
    (and_from (test x) _ p.0 q.0, q.1)

-- Words.

abbrev pub WordIs : Text → WordRead → Type 0
WordIs word (fits key value) = OneOrMore is_key_byte key × OneOrMore is_word_byte value
    × (word ≡ key ++ colon ∷ value)
WordIs word (misfits m) = IsMisfit m × (word ≡ misfit_text m)

-- a word byte that isn't a key byte is a colon
is_colon : (b : ℕ) → is_word_byte b ≡ true → is_key_byte b ≡ false → b ≡ colon
is_colon b w k = by (and_cases (not (b == colon)) (is_word_byte b) k)
  where
    by : ((not (b == colon)) ≡ false) ⊎ (is_word_byte b ≡ false) → b ≡ colon
    by (inl e) = eqb-true b colon (not-false (b == colon) e)
    by (inr e) = absurd (both_ways (is_word_byte b) e w)

valued_is : (key value : Text) → ZeroOrMore is_key_byte key → ZeroOrMore is_word_byte value
    → WordIs (key ++ colon ∷ value) (valued key value)
valued_is [] value k v = (v, refl)
valued_is (b ∷ key) [] k v = (k, refl)
valued_is (b ∷ key) (c ∷ value) k v = (k, v, refl)

keyed_is : (word front rest : Text) → OneOrMore is_word_byte word
    → IsSpan is_key_byte word (cut front rest) → WordIs word (keyed front rest)
keyed_is word [] [] w c = absurd (subst (OneOrMore is_word_byte) c.joined w)
keyed_is word (b ∷ front) [] w c = (c.passes, c.joined ∙ append-nil (b ∷ front))
keyed_is word front (b ∷ value) w c =
    let bytes = all_split is_word_byte front (b ∷ value)
    (subst (ZeroOrMore is_word_byte) c.joined (zero_from_one is_word_byte word w)) in
    let both = and_parts (is_word_byte b) (list_all is_word_byte value) bytes.1 in
    subst (λ x. WordIs x (valued front value))
    (sym (c.joined ∙ ap (λ x. front ++ x ∷ value) (is_colon b both.0 c.stops)))
    (valued_is front value c.passes both.1)

pub word_is : (word : Text) → OneOrMore is_word_byte word → WordIs word (word_of word)
unfolding word_of
word_is word w = keyed_is word _ _ w (span-is_span is_key_byte word)

-- Modifiers.

-- neither a word nor white bytes and a word follow
pub record NoWord (text : Text) : Type 0 where
  pub now : StopsBefore is_word_byte text
  pub after_white : StopsBefore is_word_byte (span is_white text).rest

abbrev pub ModifiersAre : Text → ModifiersRead → Type 0
ModifiersAre text (all_fit ms rest) = AreModifiers ms × NoWord rest
    × (text ≡ modifiers_before ms rest)
ModifiersAre text (one_misfits ms white m rest) =
    AreModifiers ms × OneOrMore is_white white × IsMisfit m × StopsBefore is_word_byte rest
    × (text ≡ modifiers_before ms (white ++ misfit_before m rest))

with_modifier_is : (m : Modifier) (text : Text) (r : ModifiersRead) → IsModifier m
    → ModifiersAre text r
    → ModifiersAre (m.white ++ (m.key ++ colon ∷ (m.value ++ text))) (with_modifier m r)
with_modifier_is m text (all_fit ms rest) im h =
    ((im, h.0), h.1, ap (λ x. m.white ++ (m.key ++ colon ∷ (m.value ++ x))) h.2)
with_modifier_is m text (one_misfits ms white x rest) im h =
    ((im, h.0), h.1, h.2, h.3, ap (λ x. m.white ++ (m.key ++ colon ∷ (m.value ++ x))) h.4)

word_continued_is : (next : Text → ModifiersRead) (white word rest : Text) (w : WordRead)
    → OneOrMore is_white white → StopsBefore is_word_byte rest
    → ModifiersAre rest (next rest) → WordIs word w
    → ModifiersAre (white ++ (word ++ rest)) (word_continued next white rest w)
word_continued_is next white word rest (fits key value) iw s more h =
    subst (λ x. ModifiersAre (white ++ x) (with_modifier (modifier white key value) (next rest)))
    (sym (ap (λ x. x ++ rest) h.2 ∙ append_assoc key (colon ∷ value) rest))
    (with_modifier_is (modifier white key value) rest (next rest)
    (record { white = iw; key = h.0; value = h.1 }) more)
word_continued_is next white word rest (misfits m) iw s more h =
    (tt, iw, h.0, s, ap (λ x. white ++ x) (ap (λ x. x ++ rest) h.1 ∙ sym (misfit_before-is m rest)))

modifiers_continued_is : (next : Text → ModifiersRead) (text white after word rest : Text)
    → StopsBefore is_word_byte text
    → span is_white text ≡ cut white after → IsSpan is_white text (cut white after)
    → IsSpan is_word_byte after (cut word rest)
    → ((t : Text) → length t < length text → StopsBefore is_word_byte t → ModifiersAre t (next t))
    → ModifiersAre text (modifiers_continued next text white word rest)
modifiers_continued_is next text [] after word rest s e c d more = (
  tt,
  record { now = s; after_white = rw e (subst (StopsBefore is_word_byte) c.joined s) },
  refl,
)
modifiers_continued_is next text (b ∷ white) after [] rest s e c d more = (
  tt,
  record {
    now = s;
    after_white =
        rw e (subst (StopsBefore is_word_byte) (sym d.joined) d.stops);
  },
  refl,
)
modifiers_continued_is next text (b ∷ white) after (x ∷ word) rest s e c d more =
    subst (λ t. ModifiersAre t (word_continued next (b ∷ white) rest (word_of (x ∷ word))))
    (sym whole)
    (word_continued_is next (b ∷ white) (x ∷ word) rest (word_of (x ∷ word)) c.passes d.stops
    (more rest (omega (
      arith,
      ap length whole,
      length-append white (x ∷ (word ++ rest)),
      length-append word rest,
    )) d.stops) (word_is (x ∷ word) d.passes))
  where
    whole : text ≡ b ∷ (white ++ x ∷ (word ++ rest))
    whole = c.joined ∙ ap (λ y. b ∷ (white ++ y)) d.joined

pub modifiers_are : (k : ℕ) (text : Text) → length text < k → StopsBefore is_word_byte text
    → ModifiersAre text (read_modifiers k text)
unfolding read_modifiers
modifiers_are zero text enough s = absurd (omega arith)
modifiers_are (suc k) text enough s =
    modifiers_continued_is (λ t. read_modifiers k t) text _ _ _ _ s refl
    (span-is_span is_white text) (span-is_span is_word_byte (span is_white text).rest)
    (λ t below stops. modifiers_are k t (omega arith) stops)
