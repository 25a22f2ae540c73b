-- A text that is put together from words, modifiers and a head is read as those.
use Rattle.std.proofs.Common.{ℕ, zero, suc, ◌≡◌, ◌<◌, List, [], ◌∷◌, ◌++◌, length, refl, sym, ◌∙◌, ap, append_assoc, arith}
use Rattle.std.proofs.lemmas.Bool.{and_parts}
use Rattle.timefd_lang_component.specs.Tree.{Text}
use Rattle.timefd_language.specs.Bytes.{colon, is_white, is_word_byte, is_key_byte, ZeroOrMore, OneOrMore, StopsBefore}
use Rattle.timefd_language.specs.Head.{Modifier, Head, AreModifiers, IsHead}
use Rattle.timefd_language.specs.Broken.{Misfit, no_colon, no_key, no_value, misfit_text, IsMisfit, nameless, ill_modified}
use Rattle.timefd_language.proofs.Reader.{cut, span, fits, misfits, keyed, word_of, ModifiersRead, all_fit, one_misfits, with_modifier, modifiers_continued, read_modifiers, word_continued, at_head, at_broken, head_continued, named, head_start}
use Rattle.timefd_language.proofs.Spans.{span-exact, span-all, all-append, all-implied, zero_from_one, stops_one, stops_zero, key-word, word-not_white, white-not_word}
use Rattle.timefd_language.proofs.Before.{modifiers_before, misfit_before, misfit_before-is}

-- Words.

word_of-at : (word front rest : Text) → span is_key_byte word ≡ cut front rest
    → word_of word ≡ keyed front rest
unfolding word_of
word_of-at word front rest e = rw e refl

pub word_of-fits : (key value : Text) → OneOrMore is_key_byte key → OneOrMore is_word_byte value
    → word_of (key ++ colon ∷ value) ≡ fits key value
word_of-fits [] value k w = absurd k
word_of-fits (b ∷ key) [] k w = absurd w
word_of-fits (b ∷ key) (c ∷ value) k w =
    word_of-at (b ∷ (key ++ colon ∷ c ∷ value)) (b ∷ key) (colon ∷ c ∷ value)
    (span-exact is_key_byte (b ∷ key) (colon ∷ c ∷ value) k refl)

pub word_of-misfits : (m : Misfit) → IsMisfit m → word_of (misfit_text m) ≡ misfits m
word_of-misfits (no_colon word) h =
    word_of-at word word [] (span-all is_key_byte word (zero_from_one is_key_byte word h))
word_of-misfits (no_key value) h =
    word_of-at (colon ∷ value) [] (colon ∷ value)
    (span-exact is_key_byte [] (colon ∷ value) refl refl)
word_of-misfits (no_value []) h = absurd h
word_of-misfits (no_value (b ∷ key)) h =
    word_of-at (b ∷ (key ++ colon ∷ [])) (b ∷ key) (colon ∷ [])
    (span-exact is_key_byte (b ∷ key) (colon ∷ []) h refl)

-- Modifiers.

read_modifiers-at : (k : ℕ) (text white after word rest : Text)
    → span is_white text ≡ cut white after → span is_word_byte after ≡ cut word rest
    → read_modifiers (suc k) text ≡ modifiers_continued (λ t. read_modifiers k t) text white word
    rest
unfolding read_modifiers
read_modifiers-at k text white after word rest e f = rw e (rw f refl)

pub modifiers-none : (k : ℕ) (white rest : Text) → ZeroOrMore is_white white
    → StopsBefore is_white rest → StopsBefore is_word_byte rest
    → read_modifiers (suc k) (white ++ rest) ≡ all_fit [] (white ++ rest)
modifiers-none k [] rest w s t =
    read_modifiers-at k rest [] rest [] rest (span-exact is_white [] rest w s)
    (span-exact is_word_byte [] rest refl t)
modifiers-none k (b ∷ white) rest w s t =
    read_modifiers-at k (b ∷ (white ++ rest)) (b ∷ white) rest [] rest
    (span-exact is_white (b ∷ white) rest w s) (span-exact is_word_byte [] rest refl t)

modifiers-word : (k : ℕ) (white word rest : Text) → OneOrMore is_white white
    → OneOrMore is_word_byte word → StopsBefore is_word_byte rest
    → read_modifiers (suc k) (white ++ (word ++ rest)) ≡ word_continued (λ t. read_modifiers k t)
    white rest (word_of word)
modifiers-word k [] word rest w u s = absurd w
modifiers-word k (b ∷ white) [] rest w u s = absurd u
modifiers-word k (b ∷ white) (c ∷ word) rest w u s =
    read_modifiers-at k (b ∷ (white ++ c ∷ (word ++ rest))) (b ∷ white) (c ∷ (word ++ rest))
    (c ∷ word) rest
    (span-exact is_white (b ∷ white) (c ∷ (word ++ rest)) w
    (stops_one is_word_byte is_white word-not_white (c ∷ word) rest u))
    (span-exact is_word_byte (c ∷ word) rest u s)

one_before : (a b : Text) → OneOrMore is_key_byte a → ZeroOrMore is_word_byte b
    → OneOrMore is_word_byte (a ++ b)
one_before [] b h k = absurd h
one_before (x ∷ a) b h k = all-append is_word_byte (x ∷ a) b
    (all-implied is_key_byte is_word_byte key-word (x ∷ a) h) k

pub misfit-word : (m : Misfit) → IsMisfit m → OneOrMore is_word_byte (misfit_text m)
misfit-word (no_colon []) h = absurd h
misfit-word (no_colon (b ∷ word)) h = all-implied is_key_byte is_word_byte key-word (b ∷ word) h
misfit-word (no_key value) h = h
misfit-word (no_value key) h = one_before key (colon ∷ []) h refl

pub modifiers-misfit : (k : ℕ) (white : Text) (m : Misfit) (rest : Text) → OneOrMore is_white white
    → IsMisfit m → StopsBefore is_word_byte rest
    → read_modifiers (suc k) (white ++ misfit_before m rest) ≡ one_misfits [] white m rest
modifiers-misfit k white m rest w h s =
    ap (λ x. read_modifiers (suc k) (white ++ x)) (misfit_before-is m rest)
    ∙ modifiers-word k white (misfit_text m) rest w (misfit-word m h) s
    ∙ ap (word_continued (λ t. read_modifiers k t) white rest) (word_of-misfits m h)

abbrev pub with_modifiers : List Modifier → ModifiersRead → ModifiersRead
with_modifiers [] out = out
with_modifiers (m ∷ ms) out = with_modifier m (with_modifiers ms out)

modifiers_stop : (ms : List Modifier) (tail : Text) → AreModifiers ms
    → StopsBefore is_word_byte tail → StopsBefore is_word_byte (modifiers_before ms tail)
modifiers_stop [] tail h s = s
modifiers_stop (m ∷ ms) tail h s = stops_one is_white is_word_byte white-not_word m.white _
    h.0.white

pub modifiers-more : (ms : List Modifier) (tail : Text) (out : ModifiersRead) → AreModifiers ms
    → StopsBefore is_word_byte tail
    → ((j : ℕ) → read_modifiers (suc j) tail ≡ out)
    → (k : ℕ) → length ms < k → read_modifiers k (modifiers_before ms tail) ≡ with_modifiers ms out
modifiers-more [] tail out h s next zero below = absurd (omega arith)
modifiers-more [] tail out h s next (suc k) below = next k
modifiers-more (m ∷ ms) tail out h s next zero below = absurd (omega arith)
modifiers-more (m ∷ ms) tail out h s next (suc k) below =
    ap (λ x. read_modifiers (suc k) (m.white ++ x))
    (sym (append_assoc m.key (colon ∷ m.value) (modifiers_before ms tail)))
    ∙ modifiers-word k m.white (m.key ++ colon ∷ m.value) (modifiers_before ms tail) h.0.white
    (one_before m.key (colon ∷ m.value) h.0.key (colon_before m.value h.0.value))
    (modifiers_stop ms tail h.1 s)
    ∙ ap (word_continued (λ t. read_modifiers k t) m.white (modifiers_before ms tail))
    (word_of-fits m.key m.value h.0.key h.0.value)
    ∙ ap (with_modifier m) (modifiers-more ms tail out h.1 s next k (omega arith))
  where
    colon_before : (value : Text) → OneOrMore is_word_byte value
        → ZeroOrMore is_word_byte (colon ∷ value)
    colon_before value v = zero_from_one is_word_byte value v

pub with_modifiers-fit : (ms : List Modifier) (rest : Text)
    → with_modifiers ms (all_fit [] rest) ≡ all_fit ms rest
with_modifiers-fit [] rest = refl
with_modifiers-fit (m ∷ ms) rest = ap (with_modifier m) (with_modifiers-fit ms rest)

pub with_modifiers-misfit : (ms : List Modifier) (white : Text) (m : Misfit) (rest : Text)
    → with_modifiers ms (one_misfits [] white m rest) ≡ one_misfits ms white m rest
with_modifiers-misfit [] white m rest = refl
with_modifiers-misfit (x ∷ ms) white m rest =
    ap (with_modifier x) (with_modifiers-misfit ms white m rest)

-- Heads: what follows `[`.

abbrev pub head_after : Head → Text → Text
head_after h tail = h.white ++ (h.name ++ modifiers_before h.modifiers tail)

head_start-at : (k : ℕ) (text white after name rest : Text) → span is_white text ≡ cut white after
    → span is_word_byte after ≡ cut name rest
    → head_start k text ≡ named k white name rest
unfolding head_start
head_start-at k text white after name rest e f = rw e (rw f refl)

head_start-named : (k : ℕ) (white name rest : Text) → ZeroOrMore is_white white
    → OneOrMore is_word_byte name → StopsBefore is_word_byte rest
    → head_start k (white ++ (name ++ rest)) ≡ head_continued white name (read_modifiers k rest)
head_start-named k white [] rest w n s = absurd n
head_start-named k white (b ∷ name) rest w n s =
    head_start-at k (white ++ b ∷ (name ++ rest)) white (b ∷ (name ++ rest)) (b ∷ name) rest
    (span-exact is_white white (b ∷ (name ++ rest)) w
    (word-not_white b (and_parts (is_word_byte b) _ n).0))
    (span-exact is_word_byte (b ∷ name) rest n s)

pub head_start-nameless : (k : ℕ) (white rest : Text) → ZeroOrMore is_white white
    → StopsBefore is_white rest → StopsBefore is_word_byte rest
    → head_start k (white ++ rest) ≡ at_broken (nameless white rest)
head_start-nameless k white rest w s t =
    head_start-at k (white ++ rest) white rest [] rest (span-exact is_white white rest w s)
    (span-exact is_word_byte [] rest refl t)

pub head_start-misfit : (k : ℕ) (h : Head) (white : Text) (m : Misfit) (rest : Text) → IsHead h
    → length h.modifiers < k
    → OneOrMore is_white white → IsMisfit m → StopsBefore is_word_byte rest
    → head_start k (head_after h (white ++ misfit_before m rest)) ≡ at_broken
    (ill_modified h white m rest)
head_start-misfit k h white m rest ih below w im s =
    head_start-named k h.white h.name _ ih.white ih.name
    (modifiers_stop h.modifiers _ ih.modifiers white_first)
    ∙ ap (head_continued h.white h.name)
    (modifiers-more h.modifiers _ (one_misfits [] white m rest) ih.modifiers white_first
    (λ j. modifiers-misfit j white m rest w im s) k below
    ∙ with_modifiers-misfit h.modifiers white m rest)
  where
    white_first : StopsBefore is_word_byte (white ++ misfit_before m rest)
    white_first = stops_one is_white is_word_byte white-not_word white _ w

-- white bytes and then no word, or no word right away: a complete head comes before it
pub head_start-whole : (k : ℕ) (h : Head) (white rest : Text) → IsHead h → length h.modifiers < k
    → ZeroOrMore is_white white → StopsBefore is_white rest → StopsBefore is_word_byte rest
    → head_start k (head_after h (white ++ rest)) ≡ at_head h (white ++ rest)
head_start-whole k h white rest ih below w s t =
    head_start-named k h.white h.name _ ih.white ih.name
    (modifiers_stop h.modifiers _ ih.modifiers first_stops)
    ∙ ap (head_continued h.white h.name)
    (modifiers-more h.modifiers _ (all_fit [] (white ++ rest)) ih.modifiers first_stops
    (λ j. modifiers-none j white rest w s t) k below
    ∙ with_modifiers-fit h.modifiers (white ++ rest))
  where
    first_stops : StopsBefore is_word_byte (white ++ rest)
    first_stops = stops_zero is_white is_word_byte white-not_word white rest w t
