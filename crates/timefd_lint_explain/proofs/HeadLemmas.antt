-- What follows a head and its modifiers.
use Rattle.std.proofs.Common.{ℕ, ◌≡◌, ◌∙◌, false, List, [], ◌∷◌, ◌++◌, refl, sym, subst, append_assoc}
use Rattle.std.proofs.lemmas.Bool.{and_parts, both_ways}
use Rattle.std.specs.List.{list_all}
use Rattle.timefd_lang_component.specs.Tree.{Text}
use Rattle.timefd_language.specs.declared.description_version.DescriptionVersion.TheVariants.{Three}
use Rattle.timefd_language.specs.Bytes.{left, right, colon, is_white, is_word_byte, is_key_byte, ZeroOrMore, OneOrMore, StopsBefore}
use Rattle.timefd_language.specs.Grammar.{Nested, no_nested, nested, AreNested, nested_text, spelling, nesting_limit}
use Rattle.timefd_language.specs.Head.{Head, IsHead, Modifier, IsModifier, AreModifiers, modifiers_text, modifier_text}
use Rattle.timefd_language.proofs.Spans.{stops_one, key-word, white-not_word}
use Rattle.timefd_parse.proofs.BracketLemmas.{cut_word}
use Rattle.timefd_parse.specs.declared.head.modifier.Modifier as code
use Rattle.timefd_parse.specs.BracketParts.{BeginsModified}
use Rattle.timefd_lint_explain.specs.Inside.{EndsHead}

-- Ends.

white_stops : (w : Text) (c : ℕ) (rest : Text) → ZeroOrMore is_white w → is_word_byte c ≡ false
    → StopsBefore is_word_byte (w ++ c ∷ rest)
white_stops [] c rest all word = word
white_stops (b ∷ w) c rest all word =
    white-not_word b (and_parts (is_white b) (list_all is_white w) all).0

no_key : (key after : Text) (c : ℕ) (rest : Text) → is_word_byte c ≡ false
    → OneOrMore is_key_byte key → c ∷ rest ≡ key ++ after → ⊥
no_key [] after c rest word some e = some
no_key (k ∷ key) after c rest word some e =
    let is : c ≡ k = cc in
    both_ways (is_word_byte k) (subst (λ b. is_word_byte b ≡ false) is word)
    (key-word k (and_parts (is_key_byte k) (list_all is_key_byte key) some).0)

-- White bytes, and then a byte that is neither white nor a part of a word.
special_ends : (w : Text) (c : ℕ) (rest : Text) → ZeroOrMore is_white w → is_word_byte c ≡ false
    → is_white c ≡ false → EndsHead (w ++ c ∷ rest)
special_ends w c rest all word white = (
  white_stops w c rest all word,
  λ m after is e.
      let cut = cut_word (w ++ c ∷ rest) w (c ∷ rest) m after
      (record { whole = refl; passes = all; stops = white }) is e in
      no_key m.key (colon ∷ m.value ++ after) c rest word is.key
      (cut.word_is ∙ append_assoc m.key (colon ∷ m.value) after),
)

pub regrouped : (a b c d : Text) → ((a ++ left ∷ b) ++ right ∷ c) ++ d ≡ a ++ left ∷ (b ++ right ∷ (c ++ d))
regrouped a b c d = simp append_assoc

pub ends_head : (ns : Nested) (white : Text) → AreNested Three nesting_limit 0 ns
    → ZeroOrMore is_white white → EndsHead (nested_text ns ++ (white ++ right ∷ []))
ends_head no_nested white are all = special_ends white right [] all refl refl
ends_head (nested w ps ns) white are all =
    subst EndsHead (sym (regrouped w (spelling ps) (nested_text ns) (white ++ right ∷ [])))
    (special_ends w left (spelling ps ++ right ∷ (nested_text ns ++ (white ++ right ∷ []))) are.0
    refl refl)

-- Modifiers.

-- Modifiers, and what follows them.
pub record Modified (after rest : Text) : Type 0 where
  pub others : List Modifier
  pub are : AreModifiers others
  pub rest_is : rest ≡ modifiers_text others ++ after

modifiers_stop : (ms : List Modifier) (after : Text) → AreModifiers ms
    → StopsBefore is_word_byte after → StopsBefore is_word_byte (modifiers_text ms ++ after)
modifiers_stop [] after are stops = stops
modifiers_stop (m ∷ ms) after are stops =
    subst (StopsBefore is_word_byte)
    (sym (at_front m.white m.key (colon ∷ m.value) (modifiers_text ms) after))
    (stops_one is_white is_word_byte white-not_word m.white _ are.0.white)
  where
    at_front : (a b c d e : Text) → ((a ++ b ++ c) ++ d) ++ e ≡ a ++ (b ++ (c ++ (d ++ e)))
    at_front a b c d e = simp append_assoc

pub modified_first : (h : Head) (after rest : Text) → IsHead h
    → rest ≡ modifiers_text h.modifiers ++ after → Modified after rest
modified_first h after rest is e =
    record { others = h.modifiers; are = is.modifiers; rest_is = e }

pub modified_more : (after rest later : Text) (c : code.Modifier) → EndsHead after
    → Modified after rest → BeginsModified rest c later
    → ((m : Modifier) (b : Text) → IsModifier m → StopsBefore is_word_byte b
    → rest ≡ modifier_text m ++ b → later ≡ b)
    → Modified after later
modified_more after rest later c ends before begins finds =
    by before.others before.are before.rest_is
  where
    by : (ms : List Modifier) → AreModifiers ms → rest ≡ modifiers_text ms ++ after
        → Modified after later
    by [] are e = absurd (ends.1 begins.modifier later begins.is (sym e ∙ begins.whole))
    by (m ∷ ms) are e = record {
      others = ms;
      are = are.1;
      rest_is = finds m (modifiers_text ms ++ after) are.0
          (modifiers_stop ms after are.1 ends.0)
          (e ∙ append_assoc (modifier_text m) (modifiers_text ms) after);
    }

pub modified_end : (after rest : Text) → EndsHead after → Modified after rest
    → ((m : Modifier) (b : Text) → IsModifier m → StopsBefore is_word_byte b
    → rest ≡ modifier_text m ++ b → ⊥)
    → rest ≡ after
modified_end after rest ends before none = by before.others before.are before.rest_is
  where
    by : (ms : List Modifier) → AreModifiers ms → rest ≡ modifiers_text ms ++ after
        → rest ≡ after
    by [] are e = e
    by (m ∷ ms) are e =
        absurd (none m (modifiers_text ms ++ after) are.0
        (modifiers_stop ms after are.1 ends.0)
        (e ∙ append_assoc (modifier_text m) (modifiers_text ms) after))
