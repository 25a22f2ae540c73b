-- Texts that are one bracket, which versions 2 and 3 read as a component.
use Rattle.std.proofs.Common.{ℕ, ◌≡◌, ◌-◌, ◌==◌, ◌&&◌, Bool, true, false, List, [], ◌∷◌, ◌++◌, map, length, take, drop, Ok, codes}
use Rattle.std.specs.List.{list_all, slice_split}
use Rattle.std.proofs.lemmas.Bool.{and_parts, false≢true}
use Rattle.timefd_lang_component.specs.Tree.{Text, component}
use Rattle.timefd_lang_component.specs.declared.component.Component.{Component}
use Rattle.timefd_language.specs.Bytes.{right, colon, is_white, is_word_byte, is_key_byte, OneOrMore}
use Rattle.timefd_language.specs.Head.{Head, IsHead, Modifier, IsModifier, AreModifiers, head_text}
use Rattle.timefd_language.specs.Verdict.{verdict}
use Rattle.timefd_lift.specs.Written.{component_text}

abbrev some : (ℕ → Bool) → Text → Bool
some test [] = false
some test (b ∷ bytes) = list_all test (b ∷ bytes)

some_is : (test : ℕ → Bool) (bytes : Text) → some test bytes ≡ true → OneOrMore test bytes
some_is test [] e = absurd (false≢true e)
some_is test (b ∷ bytes) e = e

abbrev is_modifier : Modifier → Bool
is_modifier m = some is_white m.white && (some is_key_byte m.key && some is_word_byte m.value)

modifier_is : (m : Modifier) → is_modifier m ≡ true → IsModifier m
modifier_is m e =
    let p = and_parts (some is_white m.white) (some is_key_byte m.key && some is_word_byte m.value)
    e in
    let q = and_parts (some is_key_byte m.key) (some is_word_byte m.value) p.1 in
    record {
      white = some_is is_white m.white p.0;
      key = some_is is_key_byte m.key q.0;
      value =
          some_is is_word_byte m.value q.1;
    }

modifiers_are : (ms : List Modifier) → list_all is_modifier ms ≡ true → AreModifiers ms
modifiers_are [] e = tt
modifiers_are (m ∷ ms) e =
    let p = and_parts (is_modifier m) (list_all is_modifier ms) e in
    (modifier_is m p.0, modifiers_are ms p.1)

-- a head without white bytes at its front
abbrev pub plain_head : Text → List Modifier → Head
plain_head name ms = record { white = []; name = name; modifiers = ms }

-- a modifier after a space
infix 80 ◌set_to◌
abbrev pub ◌set_to◌ : Text → Text → Modifier
key set_to value = record { white = codes " "; key = key; value = value }

-- the modifier in a word, which a colon cuts into key and value
abbrev modifier_of : List Text → Modifier
modifier_of (key ∷ value ∷ []) = key set_to value
modifier_of parts = [] set_to []

abbrev head_of_words : List Text → Head
head_of_words [] = plain_head [] []
head_of_words (name ∷ words) =
    plain_head name (map (λ word. modifier_of (slice_split (λ b. b == colon) word)) words)

-- the head of a bracket, which spaces cut into words
abbrev pub head_in : Text → Head
head_in text = head_of_words (slice_split (λ b. b == 32) (take (length text - 2) (drop 1 text)))

abbrev pub is_head : Head → Bool
is_head h = list_all is_white h.white && (some is_word_byte h.name && list_all is_modifier
    h.modifiers)

head_is : (h : Head) → is_head h ≡ true → IsHead h
head_is h e =
    let p = and_parts (list_all is_white h.white) (some is_word_byte h.name && list_all is_modifier
    h.modifiers) e in
    let q = and_parts (some is_word_byte h.name) (list_all is_modifier h.modifiers) p.1 in
    record {
      white = p.0;
      name = some_is is_word_byte h.name q.0;
      modifiers = modifiers_are h.modifiers q.1;
    }

-- the text is a bracket, which versions 2 and 3 read as the component
pub record IsShown (text : Text) (c : Component) : Type 0 where
  pub head : Head
  pub is : IsHead head
  pub spelled : text ≡ head_text head ++ right ∷ []
  pub read : (close : ℕ) → verdict true head [] close ≡ Ok (component c)
  pub read_two : (close : ℕ) → verdict false head [] close ≡ Ok (component c)

abbrev pub IsShownAs : Component → Type 0
IsShownAs c = IsShown (component_text c) c

-- if the modifiers have values, each of the four fields is proved by computing it
pub shown : {c : Component} → is_head (head_in (component_text c)) ≡ true
    → component_text c ≡ head_text (head_in (component_text c)) ++ right ∷ []
    → ((close : ℕ) → verdict true (head_in (component_text c)) [] close ≡ Ok (component c))
    → ((close : ℕ) → verdict false (head_in (component_text c)) [] close ≡ Ok (component c))
    → IsShownAs c
shown {c} is spelled read read_two = record {
  head = head_in (component_text c);
  is = head_is (head_in (component_text c)) is;
  spelled = spelled;
  read = read;
  read_two = read_two;
}
